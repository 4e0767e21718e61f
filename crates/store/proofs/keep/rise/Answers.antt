use Rattle.std.proofs.Common.{◌≡◌, sym, ap, ◌∙◌}
use Rattle.device.proofs.Did.{did_map, did_size}
use Rattle.store.proofs.keep.rise.Goals as goal

pub returns-in-Some : goal.returns-in-Some
returns-in-Some g c =
    let same = did_size (λ s o t k. k.1) c.rise.ensures.did in
    let what = did_map {step' = g.D.Device.step} (λ s. s.now) (λ s o t k. k.0) c.rise.ensures.did in
    let first : c.in-Some.memory.dev.now ≡ c.args.dev.now = ap (λ m. m.now) c.in-Some.ensures.same in
    let end : c.rise.new.self.dev.now ≡ c.dev-1.given.0 = sym (c.dev-1.given.1 (sym (same ∙ ap (λ m. m.ghost_name) c.in-Some.ensures.same))) in
    rw (sym first, sym end) (record { did = what; stays = c.rise.ensures.stays })
