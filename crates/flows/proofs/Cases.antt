-- The worked cases, by computation.
use Rattle.std.proofs.Common.{refl}
use Rattle.plans.specs.Plan.{every, expr_size, expr_ok, sizes, stmt_size, size_of, stmt_ok, block_ok, none, value, values, same_name, broken, take_word, without, listens, rest_of, step, is_busy, moves}
use Rattle.plans.specs.Plan.{does as does_stmt}
use Rattle.flows.specs.House.{some, keep, find, change, wished, step_of, given, starts, is_over, told_to, listens_for, tells, cancels, is_due, due_at, first, hands_out, is_out, longer, doubled, less1, fails, works, reports, forgets, shows, is_late, all_late, woken, all_woken, is_tick, acts}
use Rattle.flows.specs.Rows.{replies, expected, CasesStand}

pub cases_stand : CasesStand
unfolding every expr_size expr_ok sizes stmt_size size_of stmt_ok block_ok none value values same_name broken take_word without listens rest_of step is_busy moves does_stmt some keep find change wished step_of given starts is_over told_to listens_for tells cancels is_due due_at first hands_out is_out longer doubled less1 fails works reports forgets shows is_late all_late woken all_woken is_tick acts replies expected
cases_stand = refl
