use Rattle.std.proofs.Common.{◌≡◌, ◌+◌}
use Rattle.plans.specs.Sheet.{Step}
use Rattle.plans.proofs.Written.{Leads}
use Rattle.plans.proofs.link.put_all.Given as goal

abbrev pub invariant-loop-word : goal.invariant-loop-word
invariant-loop-word g l = let d = g.S.Sheet in (d.room l.sheet + l.word-index ≡ d.room l.initial.sheet) × Leads (Step d.wrote d.room) l.words l.word-index l.initial.sheet l.sheet
