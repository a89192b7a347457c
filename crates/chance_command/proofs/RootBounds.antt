-- The bounds of the first class's body over a memo that is raised to the last level.
use Rattle.std.proofs.Common.{◌≡◌, ℕ, ◌+◌, ◌<◌, ◌≤◌, max, List, length, sym, ap, subst, ◌∙◌, arith}
use Rattle.std.specs.Prelude.{Some}
use Rattle.bz_model.specs.declared.cell.Bounds.{Bounds}
use Rattle.bz_model.specs.Fraction.{ratio}
use Rattle.bz_model.specs.Oracle.{Encloses, IsSoundTable}
use Rattle.bz_model.specs.Spec.{Spec, body_of}
use Rattle.bz_model.specs.Object.{Object, Belongs}
use Rattle.class_system.specs.Sound.{IsSound as IsSoundSpec}
use Rattle.class_system.proofs.Soundness.{body_in_range}
use Rattle.bz_laws.proofs.Weights.{bound-pos}
use Rattle.kleene_lower.specs.Lower.{zeros}
use Rattle.oracle_memo.specs.Levels.{level_bounds, level_bounds_from, cost_at}
use Rattle.oracle_memo.specs.Memos.{Memory}
use Rattle.rounded_map.specs.RoundedMap.{Setting, setting}

-- a memo that was made of a base, with no level raised
abbrev pub made_of : Setting → (base : List ℕ) → Memory
made_of t base = record { spec = t.spec; num = t.num; den = t.den; start = zeros t; base = base; raised = 0 }

-- its table of level 6, after it was raised
pub table-is : (t : Setting) (base : List ℕ) (m now : Memory) (e : ℕ) → m ≡ made_of t base → now ≡ record m { raised = max m.raised 6 } → level_bounds_from (setting now.spec now.num now.den t.bits) now.start now.base 6 e ≡ level_bounds t base 6 e
table-is t base m now e made raised =
    ap (λ (k : Memory). level_bounds_from (setting k.spec k.num k.den t.bits) k.start k.base 6 e) raised
    ∙ ap (λ (k : Memory). level_bounds_from (setting k.spec k.num k.den t.bits) k.start k.base 6 e) made

-- the level is raised
pub is-raised : (t : Setting) (base : List ℕ) (m now : Memory) → m ≡ made_of t base → now ≡ record m { raised = max m.raised 6 } → now.raised ≡ 6
is-raised t base m now made raised = let six : max 0 6 ≡ 6 = omega arith in ap (λ (k : Memory). k.raised) raised ∙ ap (λ (k : Memory). max k.raised 6) made ∙ six

pub spec-is : (t : Setting) (base : List ℕ) (m now : Memory) → m ≡ made_of t base → now ≡ record m { raised = max m.raised 6 } → now.spec ≡ t.spec
spec-is t base m now made raised = ap (λ (k : Memory). k.spec) raised ∙ ap (λ (k : Memory). k.spec) made

-- what raising cost
pub root-ticks : (t : Setting) (base : List ℕ) (m : Memory) (before after : ℕ) → m ≡ made_of t base → after + cost_at m.raised ≡ before + cost_at (max m.raised 6) → after ≤ before + cost_at 6
root-ticks t base m before after made ticks =
    let none : cost_at m.raised ≡ 0 = ap (λ (k : Memory). cost_at k.raised) made in
    let six : max 0 6 ≡ 6 = omega arith in
    let last : cost_at (max m.raised 6) ≡ cost_at 6 = ap (λ (k : Memory). cost_at (max k.raised 6)) made ∙ ap cost_at six in
    omega (arith, ticks, none, last)

-- the node of a body is one of the memo's
pub node-within : (t : Setting) (base : List ℕ) (system : Spec) (m now : Memory) (e : ℕ) → system ≡ t.spec → IsSoundSpec system → body_of system 0 ≡ Some e → m ≡ made_of t base → now ≡ record m { raised = max m.raised 6 } → e < length now.spec.nodes
node-within t base system m now e same sound at made raised = subst (λ (s : Spec). e < length s.nodes) (same ∙ sym (spec-is t base m now made raised)) (body_in_range system sound 0 e at)

-- what is known of bounds of a body: they are those of level 6, enclose the body, and the upper one is above 0
pub record IsRoot (t : Setting) (base : List ℕ) (root : Bounds) : Type 0 where
  pub bounds : (body : ℕ) → body_of t.spec 0 ≡ Some body → root ≡ level_bounds t base 6 body
  pub encloses : (body : ℕ) → body_of t.spec 0 ≡ Some body → Encloses t.spec (ratio t.num t.den) t.bits body root
  pub some : 0 < root.hi

module _ (t : Setting) (base : List ℕ) (system : Spec) (m now : Memory) (e : ℕ) (root : Bounds) (same : system ≡ t.spec) (at : body_of system 0 ≡ Some e) (made : m ≡ made_of t base) (raised : now ≡ record m { raised = max m.raised 6 }) (within : e < length now.spec.nodes) (sound : IsSoundTable now.spec (ratio now.num now.den) t.bits (λ level node. level_bounds_from (setting now.spec now.num now.den t.bits) now.start now.base level node)) (is : root ≡ level_bounds_from (setting now.spec now.num now.den t.bits) now.start now.base 6 e) where
  now-is : now ≡ record (made_of t base) { raised = max 0 6 }
  now-is = raised ∙ ap (λ (k : Memory). record k { raised = max k.raised 6 }) made

  here : Encloses t.spec (ratio t.num t.den) t.bits e root
  here =
      let told = sound.enclosed 6 e (omega arith) (omega arith) within in
      subst (λ (b : Bounds). Encloses t.spec (ratio t.num t.den) t.bits e b) (sym (is ∙ table-is t base m now e made raised))
      (subst (λ (k : Memory). Encloses k.spec (ratio k.num k.den) t.bits e (level_bounds_from (setting k.spec k.num k.den t.bits) k.start k.base 6 e)) now-is told)

  one-body : (body : ℕ) → body_of t.spec 0 ≡ Some body → e ≡ body
  one-body body there = let first = subst (λ (s : Spec). body_of s 0 ≡ Some e) same at in cc

  above-zero : 0 < root.hi
  above-zero =
      let o = subst (λ (k : Memory). (o : Object) × Belongs k.spec e o) now-is (sound.inhabited e within) in
      let positive = subst (λ (k : Memory). 0 < k.num) now-is sound.positive in
      bound-pos (ratio t.num t.den) t.bits root.hi (Belongs t.spec e) o.0 positive o.1 here.above

  pub is-root : IsRoot t base root
  is-root = record {
    bounds = λ body there. is ∙ table-is t base m now e made raised ∙ ap (level_bounds t base 6) (one-body body there);
    encloses = λ body there. subst (λ b. Encloses t.spec (ratio t.num t.den) t.bits b root) (one-body body there) here;
    some = above-zero;
  }
