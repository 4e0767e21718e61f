-- Where what stands in a page of 128 words. Assumes nothing.
use Rattle.std.specs.Prelude.{ℕ}

abbrev pub page_words : ℕ
page_words = 128

-- the phase: a tag, and four words of what it holds
abbrev pub phase_at : ℕ
phase_at = 0

abbrev pub here_at : ℕ
here_at = 5

abbrev pub steps_at : ℕ
steps_at = 6

abbrev pub into_at : ℕ
into_at = 7

-- the task: how it stands, as a tag and a time; tag 0 is no task
abbrev pub standing_at : ℕ
standing_at = 8

abbrev pub since_at : ℕ
since_at = 9

abbrev pub kind_at : ℕ
kind_at = 10

abbrev pub count_at : ℕ
count_at = 11

abbrev pub attempt_at : ℕ
attempt_at = 12

abbrev pub tries_at : ℕ
tries_at = 13

abbrev pub pause_at : ℕ
pause_at = 14

abbrev pub args_at : ℕ
args_at = 16

abbrev pub vars_at : ℕ
vars_at = 32
