use Rattle.std.proofs.Common.{◌≡◌, ℕ, ◌+◌, ◌-◌, ◌<◌, get_or, drop, sym, refl, ap, ◌∙◌, subst, arith}
use Rattle.std.proofs.lemmas.List.{length-set, get_or-set_other, get_or-map}
use Rattle.planning.specs.Trims.{left_out}
use Rattle.plans.specs.Scripts.{numbers, Told}
use Rattle.plans.proofs.Rows.{told_drop, acts_at, later_at}
use Rattle.plans.proofs.Gap.{behind_numbers, behind_wanted, moved_numbers, moved_told, moved_wanted}
use Rattle.plans.proofs.script.ops.leave_out.Goals as goal

pub loop-k-init : goal.loop-k-init
loop-k-init c =
    let old = c.args.script.now in
    let i = c.args.i in
    record {
      size = refl;
      front = λ k d h. refl;
      numbered = behind_numbers old i c.requires;
      told = λ t s. (told_drop t i (drop 1 old) (told_drop t 1 old s.each), behind_wanted old i c.requires t _ (later_at t old i _ _ refl c.requires s.each));
    }

pub loop-k-preserved : goal.loop-k-preserved
loop-k-preserved c =
    let old = c.args.script.now in
    let i = c.args.i in
    let now = c.loop-k.script in
    let m = c.loop-k.k in
    let k = m - 1 in
    let before = c.loop-k.invariant in
    let b : k < i = omega arith in
    let next : m ≡ k + 1 = omega arith in
    let here : k < m = omega arith in
    let same = before.front k _ here in
    let number = ap (λ s. s.number) same in
    record {
      size = length-set now (k + 1) _ ∙ before.size;
      front = λ j d h. get_or-set_other now (k + 1) j _ d (omega arith) ∙ before.front j d (omega arith);
      numbered = moved_numbers old i c.requires k m b next now before.size _ _ number before.numbered;
      told = λ t s.
          let acts = acts_at t old k _ _ same (omega arith) s.each in
          let told = before.told t s in (
            moved_told old i c.requires k m b next now before.size _ _ number before.numbered t acts told.1 told.0,
            moved_wanted old i c.requires k m b next t _ (c.before-want.ensures t (get_or (numbers old) k 0) (drop m (left_out (numbers old) i)) s.lawful acts told.1),
          );
    }

pub returns : goal.returns
returns c =
    let old = c.args.script.now in
    let now = c.loop-k.script in
    let before = c.loop-k.invariant in
    let end : c.loop-k.k ≡ 0 = omega arith in
    record {
      number = sym (get_or-map (λ s. s.number) old c.args.i _ 0 c.requires);
      plan = subst (λ (k : ℕ). numbers (drop k (drop 1 now)) ≡ drop k (left_out (numbers old) c.args.i)) end before.numbered;
      scripted = λ t s. record { lawful = s.lawful; each = subst (λ (k : ℕ). Told t (drop k (drop 1 now))) end (before.told t s).0 };
    }
