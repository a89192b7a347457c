-- Visits that take no number and move on, from what was put and taken away.
use Rattle.std.proofs.Common.{◌≡◌, ◌≢◌, ℕ, zero, suc, ◌-◌, ◌<◌, arith, List, [], ◌∷◌, ◌++◌, length, map, false, refl, sym, ◌∙◌, ap, subst, Option, Some, None}
use Rattle.std.specs.Prelude.{◌==◌, is_some}
use Rattle.class_system.specs.declared.ids.ExprId.{ExprId}
use Rattle.class_system.specs.Views.{number}
use Rattle.object_store.specs.declared.token.Token.{Token}
use Rattle.object_store.specs.declared.token.Token.TheVariants as token
use Rattle.shape_sampler.specs.declared.stepped.Stepped.{Stepped}
use Rattle.shape_sampler.specs.declared.stepped.Stepped.TheVariants.{Moved}
use Rattle.shape_sampler.specs.Visit.{Attempt, Visited, leaf_visited, atom_visited, attempt_with_token, with_pending}
use Rattle.shape_sampler.specs.State.{SessionState, attempt_of}
use Rattle.shape_sampler.specs.Answer.{IsPlainVisit, room_atom_visited, replaced_by}
use Rattle.shape_sampler.proofs.Union.{same-attempt}

-- A list that isn't empty has a first item and others after it.
pub record Begins (es : List ℕ) : Type 0 where
  pub first : ℕ
  pub rest : List ℕ
  pub whole : es ≡ first ∷ rest

pub begins : (es : List ℕ) → es ≢ [] → Begins es
begins [] some = absurd (some refl)
begins (e ∷ es) some = record { first = e; rest = es; whole = refl }

pub begins-many : (es : List ℕ) → 1 < length es → Begins es
begins-many [] many = absurd (omega arith)
begins-many (e ∷ es) many = record { first = e; rest = es; whole = refl }

-- a product that has parts puts some
pub some-parts : (parts : List ExprId) → false ≡ (length parts == 0) → map number parts ≢ []
some-parts [] has none = absurd (cc)
some-parts (p ∷ parts) has none = absurd (cc)

-- where more than one node is pending, one is after the first is taken away
left-some : (es rest : List ℕ) (e : ℕ) → 1 < length es → es ≡ e ∷ rest → rest ≢ []
left-some es rest e many whole none =
    let count : length es ≡ suc (length rest) = ap length whole in
    let nothing : length rest ≡ 0 = ap length none in
    absurd (omega arith)

-- nothing stopped a session that isn't stopped by anything
pub not-stopped : (stopped : Option Stepped) → false ≡ is_some stopped → stopped ≡ None
not-stopped None h = refl
not-stopped (Some stop) h = absurd (cc)

-- an atom's visit where there is room
with-room : (a : Attempt) (rest : List ℕ) (room : ℕ) → room ≢ 0 → Visited.Went (record (with_pending (attempt_with_token a token.Dot) rest) { room = room - 1 }) ≡ atom_visited a rest room
with-room a rest zero some = absurd (some refl)
with-room a rest (suc room) some = let e : suc room - 1 ≡ room = omega arith in ap (λ r. Visited.Went (record (with_pending (attempt_with_token a token.Dot) rest) { room = r })) e

module _ (before : SessionState) (running : before.stopped ≡ None) where
  pub leaf-move : (es : List ℕ) (ts : List Token) → 1 < length before.pending → ((e : ℕ) (rest : List ℕ) → before.pending ≡ e ∷ rest → es ≡ rest) → ts ≡ before.tokens ++ token.Unit ∷ [] → IsPlainVisit leaf_visited before Moved (record before { pending = es; tokens = ts })
  leaf-move es ts many taken put =
      let b = begins-many before.pending many in
      record {
        plain = tt;
        leaves = (record { root = refl; whole = refl; stopped = running }, subst (λ fs. fs ≢ []) (sym (taken b.first b.rest b.whole)) (left-some before.pending b.rest b.first many b.whole));
        cells = refl;
        same = λ ne e rest used whole. ap Visited.Went (same-attempt (attempt_of (record before { pending = es; tokens = ts }) used) (with_pending (attempt_with_token (attempt_of before used) token.Unit) rest) (taken e rest whole) put refl refl refl);
      }

  pub atom-move : (es : List ℕ) (ts : List Token) → before.room ≢ 0 → 1 < length before.pending → ((e : ℕ) (rest : List ℕ) → before.pending ≡ e ∷ rest → es ≡ rest) → ts ≡ before.tokens ++ token.Dot ∷ [] → IsPlainVisit room_atom_visited before Moved (record before { pending = es; tokens = ts; room = before.room - 1 })
  atom-move es ts some many taken put =
      let b = begins-many before.pending many in
      record {
        plain = tt;
        leaves = (record { root = refl; whole = refl; stopped = running }, subst (λ fs. fs ≢ []) (sym (taken b.first b.rest b.whole)) (left-some before.pending b.rest b.first many b.whole));
        cells = refl;
        same = λ ne e rest used whole.
            ap Visited.Went (same-attempt (attempt_of (record before { pending = es; tokens = ts; room = before.room - 1 }) used) (record (with_pending (attempt_with_token (attempt_of before used) token.Dot) rest) { room = before.room - 1 }) (taken e rest whole) put refl refl refl)
            ∙ with-room (attempt_of before used) rest before.room some;
      }

  -- nodes are put in the place of the first
  pub nodes-move : (nodes es : List ℕ) → before.pending ≢ [] → nodes ≢ [] → ((e : ℕ) (rest : List ℕ) → before.pending ≡ e ∷ rest → es ≡ nodes ++ rest) → IsPlainVisit (replaced_by nodes) before Moved (record before { pending = es })
  nodes-move nodes es pending some placed =
      let b = begins before.pending pending in
      let n = begins nodes some in
      let whole : es ≡ n.first ∷ (n.rest ++ b.rest) = placed b.first b.rest b.whole ∙ ap (λ ns. ns ++ b.rest) n.whole in
      record {
        plain = tt;
        leaves = (record { root = refl; whole = refl; stopped = running }, subst (λ fs. fs ≢ []) (sym whole) (λ none. absurd (cc)));
        cells = refl;
        same = λ ne e rest used at. ap (λ fs. Visited.Went (with_pending (attempt_of before used) fs)) (placed e rest at);
      }
