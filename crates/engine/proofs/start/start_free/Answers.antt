use Rattle.std.proofs.Common.{ℕ, ◌+◌, ◌*◌, ◌/◌, Bool, ltb, length, Some, None, sym, refl, ap, ◌∙◌}
use Rattle.store.specs.Layout.{blocks_for}
use Rattle.store.specs.Finds.{weight_over}
use Rattle.store.specs.Room.{marked, chosen, looked_at}
use Rattle.engine.specs.Done.{mind_of}
use Rattle.engine.proofs.Launching.{free_spent, free_tight, free_done, no_blocks, some_blocks}
use Rattle.engine.proofs.start.start_free.Goals as goal

pub returns-then-is_spent : goal.returns-then-is_spent
returns-then-is_spent g c =
    let x = mind_of (g.D.Device.size c.args.memory.now.dev) c.args.held.now c.args.dir.now in
    let ws = c.args.new.now.plan.now in
    record {
      done = free_spent g.D.Device.step x c.args.new.now.key.now (length ws / 4) ws c.args.new.now.words.now c.args.slot (sym c.if-is_spent.ensures);
      stays = refl;
      time = refl;
    }

pub returns-then-is_tight : goal.returns-then-is_tight
returns-then-is_tight g c =
    let x = mind_of (g.D.Device.size c.args.memory.now.dev) c.args.held.now c.args.dir.now in
    let ws = c.args.new.now.plan.now in
    let tight : ℕ → Bool = λ m. ltb (64 * m) (1048576 + 2 * (weight_over x.page x.dir 0 1024 + (16384 + 16 * (length ws / 4)))) in
    record {
      done = free_tight g.D.Device.step x c.args.new.now.key.now (length ws / 4) ws c.args.new.now.words.now c.args.slot (sym c.if-is_spent.ensures) (ap tight (sym c.lines-lines.ensures) ∙ sym c.if-is_tight.ensures);
      stays = refl;
      time = refl;
    }

pub returns-in_default : goal.returns-in_default
returns-in_default g c =
    let step = g.D.Device.step in
    let x = mind_of (g.D.Device.size c.args.memory.now.dev) c.args.held.now c.args.dir.now in
    let ws = c.args.new.now.plan.now in
    let tight : ℕ → Bool = λ m. ltb (64 * m) (1048576 + 2 * (weight_over x.page x.dir 0 1024 + (16384 + 16 * (length ws / 4)))) in
    record {
      done = free_done step x c.args.new.now.key.now (length ws / 4) ws c.args.new.now.words.now c.args.slot None _ x (sym c.if-is_spent.ensures) (ap tight (sym c.lines-lines.ensures) ∙ sym c.if-is_tight.ensures) (c.in_default.ensures ∙ ap (λ m. chosen (blocks_for (length ws / 4)) (marked x.page x.dir (looked_at m))) c.lines-lines.ensures)
          (no_blocks step x c.args.new.now.key.now (length ws / 4) ws c.args.new.now.words.now c.args.slot);
      stays = refl;
      time = refl;
    }

pub returns : goal.returns
returns g c =
    let step = g.D.Device.step in
    let x = mind_of (g.D.Device.size c.args.memory.now.dev) c.args.held.now c.args.dir.now in
    let ws = c.args.new.now.plan.now in
    let tight : ℕ → Bool = λ m. ltb (64 * m) (1048576 + 2 * (weight_over x.page x.dir 0 1024 + (16384 + 16 * (length ws / 4)))) in
    record {
      done = free_done step x c.args.new.now.key.now (length ws / 4) ws c.args.new.now.words.now c.args.slot (Some c.in-Some.blocks) _ _ (sym c.if-is_spent.ensures) (ap tight (sym c.lines-lines.ensures) ∙ sym c.if-is_tight.ensures) (c.in-Some.ensures ∙ ap (λ m. chosen (blocks_for (length ws / 4)) (marked x.page x.dir (looked_at m))) c.lines-lines.ensures)
          (some_blocks step x c.args.new.now.key.now (length ws / 4) ws c.args.new.now.words.now c.args.slot c.in-Some.blocks _ _ c.start_blocks.ensures.done);
      stays = c.start_blocks.ensures.stays;
      time = c.start_blocks.ensures.time;
    }
