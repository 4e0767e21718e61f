-- What a word is, as the code finds it. Assumes nothing.
use Rattle.std.specs.Prelude.{ℕ, Bool, ◌&&◌, [], ◌∷◌, Some, None, Option, nat_le}
use Rattle.text.specs.Token.{key}
use Rattle.text.specs.Lexer.{Lexed, wrong, tokens}
use Rattle.text.specs.Ahead.{key_meant}
use Rattle.text.specs.declared.Key.{Key}

-- a letter a to z
abbrev pub lower : ℕ → Bool
lower b = nat_le 97 b && nat_le b 122

abbrev pub saying : Option Key → Lexed
saying (Some k) = tokens (key (key_meant k) ∷ [])
saying None = wrong
