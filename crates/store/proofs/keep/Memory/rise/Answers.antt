use Rattle.std.proofs.Common.{ℕ, ◌+◌, ◌*◌, ◌%◌, List, subst}
use Rattle.device.specs.Lines.{Work, yields}
use Rattle.device.specs.Does.{Did, d_load, d_end, bind}
use Rattle.device.proofs.Did.{did_bind, did_size}
use Rattle.words.specs.Works.{load_words}
use Rattle.store.specs.Layout.{Mind}
use Rattle.store.specs.Works.{rise_work}
use Rattle.store.proofs.keep.Memory.rise.Goals as goal

pub returns : goal.returns
unfolding rise_work
returns g c =
    let step = g.D.Device.step in
    let n = g.D.Device.size c.args.self.now.dev in
    let r = c.load-word.result in
    let p = c.load_words.new.out in
    let q = c.load_words-2.new.out in
    let last : ℕ → List ℕ → List ℕ → Work Mind = λ r p d. yields (record { lines = n; now = 0; word = r; page = p; dir = d }) in
    let d1 : Did step (load_words (1 + r % 2 * 5) 0 40) c.load-word.new.self p c.load_words.new.dev =
    subst (λ k. Did step (load_words (1 + r % 2 * 5) 0 k) c.load-word.new.self p c.load_words.new.dev) c.told-root c.load_words.ensures.did in
    let d2 : Did step (load_words 16 0 98304) c.load_words.new.dev q c.load_words-2.new.dev =
    subst (λ k. Did step (load_words 16 0 k) c.load_words.new.dev q c.load_words-2.new.dev) c.told-dir c.load_words-2.ensures.did in
    let d : Did step (rise_work n) c.args.self.now.dev (record { lines = n; now = 0; word = r; page = p; dir = q }) c.load_words-2.new.dev =
    d_load c.load-word.ensures (did_bind (λ p. bind (load_words 16 0 98304) (last r p)) d1 (did_bind (last r p) d2 d_end)) in
    record { did = d; stays = did_size g.met.D.Device.stays d }
