use Rattle.runs.proofs.machine_stands.Goals as goal
use Rattle.runs.proofs.Told.{moves_alike, broken_alike, result_alike, wakes_alike, heard_alike, ends_alike, boxed_alike, cuts_alike, never_wrong}

pub returns : goal.returns
returns c = record { alike = moves_alike; broke = broken_alike; result = result_alike; wakes = wakes_alike; hears = heard_alike; ends_it = ends_alike; boxes = boxed_alike; cuts = cuts_alike; never = never_wrong }
