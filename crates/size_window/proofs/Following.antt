-- A drawing by a chooser that decides ideally follows the ideal run, turn after turn.
use Rattle.std.proofs.Common.{◌≡◌, ◌≢◌, ℕ, zero, suc, ◌<◌, ◌≤◌, Bool, true, false, cond, List, [], ◌∷◌, ◌++◌, length, Option, Some, None, refl, sym, ◌∙◌, ap, subst, arith, append-nil, add-one}
use Rattle.std.specs.Prelude.{slice_index, slice_get, nat_eq, nat_lt}
use Rattle.std.proofs.lemmas.Bool.{eqb-false, ltb-true, ltb-false}
use Rattle.bz_model.specs.declared.cell.Cell.{Cell}
use Rattle.bz_model.specs.Fraction.{Fraction}
use Rattle.bz_model.specs.Spec.{Spec, Mode, Node, node_at, body_of}
use Rattle.bz_model.specs.Cell.{AreInCells}
use Rattle.bz_model.specs.Object.{none}
use Rattle.bz_model.specs.Making.{Just, Over, All, ClassMakes}
use Rattle.bz_model.specs.Making as making
use Rattle.bz_laws.proofs.Makings.{fine}
use Rattle.object_store.specs.declared.token.Token.{Token}
use Rattle.object_store.specs.Tokens.{size_of, IsOf}
use Rattle.object_store.specs.Walk.{AllBelow}
use Rattle.object_store.proofs.OneToOne.{one-of-class}
use Rattle.class_system.specs.Sound.{IsSound}
use Rattle.class_system.proofs.Soundness.{has_body, body_in_range, class_in_range}
use Rattle.choice_draw.specs.Draw.{Bit, bit_of}
use Rattle.shape_sampler.specs.Visit.{Attempt, Visited, visit_among, node_visited, begun}
use Rattle.shape_sampler.specs.Belonging.{Continues, MakesTokens, IsIdealShape, IsIdealOver}
use Rattle.shape_sampler.proofs.Numbers.{least_of, least_of-in}
use Rattle.shape_sampler.proofs.Visits.{begins}
use Rattle.labelling.specs.LabelsByBits.{Labelling, labelling}
use Rattle.labelling.proofs.IdealByBits.{labels-ideal}
use Rattle.size_window.specs.RunByBits
use Rattle.size_window.specs.RunByBits.{Limits, Sampling, RunState, Entry, Turned, Course, Ending, added, start, quiet, at_place, ended, entry_made, thrown_away, kept_one, kept_or_waits, went, visited, labelled_with, label_turn, shape_turn, counted_turn, turn_unless, fault_place, followed_by, one_turn_on, at_start, after, with_attempt}
use Rattle.size_window.specs.Ideally.{DecidesIdeally}
use Rattle.size_window.specs.Follows.{Follows, GoesIdeally}
use Rattle.size_window.proofs.Going.{goes-on, goes-stopped, goes-over, goes-small, goes-kept, gives-none, gives-ideal, goes-start}
use Rattle.size_window.proofs.Visiting.{IsIdeally, node-ideally, at_index}
use Rattle.size_window.proofs.VisitCells.{ExtendsCells, node-extends, PendsBelow, node-pends}

-- an attempt that goes on with nothing pending has the ideal shape
module _ (s : Spec) (x : Fraction) (whole : ℕ) (tokens : List Token) (cells : List Cell) (room : ℕ) (g : Continues s x whole tokens cells room []) where
  made-from : (us rest : List Fraction) → AreInCells us cells → MakesTokens s x whole (us ++ rest) (tokens ++ []) room rest
  made-from us rest inside = g.makes us rest rest none room inside making.done

  first-made : MakesTokens s x whole (least_of cells ++ []) (tokens ++ []) room []
  first-made = made-from (least_of cells) [] (least_of-in cells)

  is-of : {us left : List Fraction} → MakesTokens s x whole us (tokens ++ []) room left → IsOf s 0 (tokens ++ [])
  is-of m = record { body = m.made.0; is_body = m.made.1; object = m.object; belongs = (fine s x m.made.2).0; spelled = m.spelled }

  pub ideal-shape : IsIdealShape s x whole tokens cells
  unfolding made-from is-of first-made
  ideal-shape = record {
    object = first-made.object;
    spelled = first-made.spelled ∙ append-nil tokens;
    room_left = room;
    made = λ us rest inside.
        let m = made-from us rest inside in
        let same : m.object ≡ first-made.object = one-of-class s 0 (tokens ++ []) (is-of m) (is-of first-made) in
        subst (λ o. ClassMakes s x 0 whole (us ++ rest) (Just o room) rest) same m.made;
  }

module _ (s : Sampling) (x : Fraction) (ideal : DecidesIdeally s.chooser x) (sound : IsSound s.chooser.spec) where
  -- What stands of a state in which no shape waits.
  record IsAtWork (st : RunState) : Type 0 where
    idle : st.attempt.pending ≡ [] → st.attempt.cells ≡ []
    goes : st.attempt.pending ≢ [] → Continues s.chooser.spec x s.limits.max st.attempt.tokens st.attempt.cells st.attempt.room st.attempt.pending
    below : AllBelow (length s.chooser.spec.nodes) st.attempt.pending

  -- What stands of a state in which a shape waits for its labels.
  record HasShape (st : RunState) : Type 0 where
    labelled : s.chooser.spec.mode ≡ Mode.Labelled
    shape : IsIdealShape s.chooser.spec x s.limits.max st.attempt.tokens st.attempt.cells
    least : s.limits.min ≤ size_of st.attempt.tokens

  -- What stands of the state of a drawing that goes on.
  record IsOpen (st : RunState) : Type 0 where
    at_work : st.awaits ≡ false → IsAtWork st
    has_shape : st.awaits ≡ true → HasShape st

  -- What stands of a course after any number of turns.
  record Keeps (c : Course) : Type 0 where
    goes : GoesIdeally s.chooser.spec x s.limits c
    few : c.state.kept ≤ s.limits.count
    opened : c.state.ending ≡ None → IsOpen c.state

  -- a state in which no attempt is under way
  idle-open : (st : RunState) → st.awaits ≡ false → st.attempt.pending ≡ [] → st.attempt.cells ≡ [] → IsOpen st
  idle-open st no_wait nothing empty = record {
    at_work = λ e. record { idle = λ p. empty; goes = λ some. absurd (some nothing); below = subst (λ es. AllBelow (length s.chooser.spec.nodes) es) (sym nothing) tt };
    has_shape = λ e. absurd (let no : ⊥ = cc in no);
  }

  -- a turn that ends the drawing
  keeps-stopped : (c : Course) (st : RunState) (ending : Ending) (cells : List Cell) → st.ending ≡ Some ending → st.kept ≡ c.state.kept → st.thrown ≡ c.state.thrown → Keeps c → Keeps (followed_by c (record { state = st; entry = None; cells = cells }))
  keeps-stopped c st ending cells is_ended same_kept same_thrown k = record {
    goes = goes-stopped s.chooser.spec x s.limits c k.goes st cells (λ none. let no : ⊥ = cc in no) same_kept same_thrown;
    few = subst (λ n. n ≤ s.limits.count) (sym same_kept) k.few;
    opened = λ e. let no : ⊥ = cc in absurd no;
  }

  keeps-ended : (c : Course) (st : RunState) (ending : Ending) → st.ending ≡ Some ending → st.kept ≡ c.state.kept → st.thrown ≡ c.state.thrown → Keeps c → Keeps (followed_by c (quiet st))
  keeps-ended c st ending is_ended same_kept same_thrown k = keeps-stopped c st ending [] is_ended same_kept same_thrown k

  module _ (c : Course) (k : Keeps c) (going : c.state.ending ≡ None) (fewer : c.state.kept < s.limits.count) where
    -- the state of a turn that is counted
    abbrev counted : RunState
    counted = record c.state { turns = suc c.state.turns }

    more-cells : (a : Attempt) → a.cells ≡ c.state.attempt.cells ++ added c.state.attempt.cells a.cells → c.state.attempt.cells ++ added c.state.attempt.cells a.cells ≡ a.cells
    more-cells a e = sym e

    -- an attempt over the room
    keeps-over : (a : Attempt) → a.cells ≡ c.state.attempt.cells ++ added c.state.attempt.cells a.cells → IsIdealOver s.chooser.spec x s.limits.max a.cells
        → Keeps (followed_by c (record { state = thrown_away (with_attempt counted a); entry = None; cells = added c.state.attempt.cells a.cells }))
    keeps-over a more o = record {
      goes = goes-over s.chooser.spec x s.limits c k.goes (thrown_away (with_attempt counted a)) (added c.state.attempt.cells a.cells) a.cells going (sym more) refl fewer o refl (sym (add-one c.state.thrown));
      few = k.few;
      opened = λ e. idle-open (thrown_away (with_attempt counted a)) refl refl refl;
    }

    -- a shape below the least size
    keeps-small : (a : Attempt) → a.cells ≡ c.state.attempt.cells ++ added c.state.attempt.cells a.cells → IsIdealShape s.chooser.spec x s.limits.max a.tokens a.cells → size_of a.tokens < s.limits.min
        → Keeps (followed_by c (record { state = thrown_away (with_attempt counted a); entry = None; cells = added c.state.attempt.cells a.cells }))
    keeps-small a more i small = record {
      goes = goes-small s.chooser.spec x s.limits c k.goes (thrown_away (with_attempt counted a)) (added c.state.attempt.cells a.cells) a.cells going (sym more) refl fewer a.tokens i small refl (sym (add-one c.state.thrown));
      few = k.few;
      opened = λ e. idle-open (thrown_away (with_attempt counted a)) refl refl refl;
    }

    -- a shape large enough, in each mode
    keeps-large : (a : Attempt) → a.cells ≡ c.state.attempt.cells ++ added c.state.attempt.cells a.cells → IsIdealShape s.chooser.spec x s.limits.max a.tokens a.cells → s.limits.min ≤ size_of a.tokens → (mode : Mode) → s.chooser.spec.mode ≡ mode
        → Keeps (followed_by c (kept_or_waits mode (with_attempt counted a) (added c.state.attempt.cells a.cells)))
    keeps-large a more i large Mode.Unlabelled plain = record {
      goes = goes-kept s.chooser.spec x s.limits c k.goes (kept_one (with_attempt counted a)) (added c.state.attempt.cells a.cells) a.cells going (sym more) refl fewer a.tokens a.cells [] [] (append-nil a.cells) i large (gives-none s.chooser.spec plain (size_of a.tokens)) (entry_made (with_attempt counted a) [] []) refl refl (append-nil a.cells) (sym (add-one c.state.kept)) refl;
      few = fewer;
      opened = λ e. idle-open (kept_one (with_attempt counted a)) refl refl refl;
    }
    keeps-large a more i large Mode.Labelled labelled = record {
      goes = goes-on s.chooser.spec x s.limits c k.goes (record (with_attempt counted a) { awaits = true }) (added c.state.attempt.cells a.cells) a.cells going (sym more) refl refl refl;
      few = k.few;
      opened = λ e. record { at_work = λ e. absurd (let no : ⊥ = cc in no); has_shape = λ e. record { labelled = labelled; shape = i; least = large } };
    }

    -- a shape is made
    keeps-shape : (a : Attempt) → a.cells ≡ c.state.attempt.cells ++ added c.state.attempt.cells a.cells → IsIdealShape s.chooser.spec x s.limits.max a.tokens a.cells → (b : Bool) → nat_lt (size_of a.tokens) s.limits.min ≡ b
        → Keeps (followed_by c (cond b (record { state = thrown_away (with_attempt counted a); entry = None; cells = added c.state.attempt.cells a.cells }) (kept_or_waits s.chooser.spec.mode (with_attempt counted a) (added c.state.attempt.cells a.cells))))
    keeps-shape a more i true below = keeps-small a more i (ltb-true (size_of a.tokens) s.limits.min below)
    keeps-shape a more i false above = keeps-large a more i (ltb-false (size_of a.tokens) s.limits.min above) s.chooser.spec.mode refl

    -- an attempt that went on
    keeps-went : (a : Attempt) → c.state.awaits ≡ false → a.cells ≡ c.state.attempt.cells ++ added c.state.attempt.cells a.cells → AllBelow (length s.chooser.spec.nodes) a.pending → Continues s.chooser.spec x s.limits.max a.tokens a.cells a.room a.pending → (p : List ℕ) → a.pending ≡ p
        → Keeps (followed_by c (went s (with_attempt counted a) p (added c.state.attempt.cells a.cells)))
    keeps-went a no_wait more below goes [] nothing =
        keeps-shape a more (ideal-shape s.chooser.spec x s.limits.max a.tokens a.cells a.room (subst (λ p. Continues s.chooser.spec x s.limits.max a.tokens a.cells a.room p) nothing goes)) (nat_lt (size_of a.tokens) s.limits.min) refl
    keeps-went a no_wait more below goes (e ∷ es) some = record {
      goes = goes-on s.chooser.spec x s.limits c k.goes (with_attempt counted a) (added c.state.attempt.cells a.cells) a.cells going (sym more) refl refl refl;
      few = k.few;
      opened = λ _. record {
        at_work = λ _. record { idle = λ p. let no : ⊥ = cc in absurd no; goes = λ _. goes; below = below };
        has_shape = λ waits. absurd (let no : ⊥ = cc in no);
      };
    }

    -- what a visit means
    keeps-visited : c.state.awaits ≡ false → (v : Visited) → IsIdeally s.chooser.spec x s.limits.max v → ExtendsCells c.state.attempt v → PendsBelow (length s.chooser.spec.nodes) v → Keeps (followed_by c (visited s counted v))
    keeps-visited no_wait (Visited.Went a) ideally more below = keeps-went a no_wait more below ideally a.pending refl
    keeps-visited no_wait (Visited.Over a) ideally more below = keeps-over a more ideally
    keeps-visited no_wait (Visited.Straddled node cell) ideally more below = keeps-ended c _ (Ending.Undecided (RunByBits.Open.AtNode node cell)) refl refl refl k
    keeps-visited no_wait (Visited.Ended place) ideally more below = keeps-ended c _ Ending.TapeEnded refl refl refl k
    keeps-visited no_wait (Visited.Failed place) ideally more below = keeps-ended c _ Ending.ReadFault refl refl refl k

    -- the node of a number in range
    node-there : (nodes : List Node) (e : ℕ) → e < length nodes → (n : Node) × (slice_get nodes e ≡ Some n)
    node-there [] e h = absurd (omega arith)
    node-there (n ∷ nodes) zero h = (n, refl)
    node-there (n ∷ nodes) (suc e) h = node-there nodes e (omega arith)

    class-there : (node : Node) (e : ℕ) → node_at s.chooser.spec e ≡ Some node → (class : ℕ) → node ≡ Node.Class class → body_of s.chooser.spec class ≡ Some (slice_index s.chooser.spec.bodies class)
    class-there node e here class is =
        let in_range = class_in_range s.chooser.spec sound e class (here ∙ ap Some is) in
        at_index s.chooser.spec.bodies class (omega (arith, sound.bodies))

    module _ (no_wait : c.state.awaits ≡ false) (work : IsAtWork c.state) where
      keeps-pending : (bit : ℕ → Bit) (e : ℕ) (rest : List ℕ) → c.state.attempt.pending ≡ e ∷ rest → Keeps (followed_by c (visited s counted (node_visited s.chooser bit c.state.attempt e rest (node_at s.chooser.spec e))))
      keeps-pending bit e rest pending =
          let below : AllBelow (length s.chooser.spec.nodes) (e ∷ rest) = subst (λ p. AllBelow (length s.chooser.spec.nodes) p) pending work.below in
          let goes : Continues s.chooser.spec x s.limits.max c.state.attempt.tokens c.state.attempt.cells c.state.attempt.room (e ∷ rest) = subst (λ p. Continues s.chooser.spec x s.limits.max c.state.attempt.tokens c.state.attempt.cells c.state.attempt.room p) pending (work.goes (λ none. let no : ⊥ = cc in no)) in
          let n = node-there s.chooser.spec.nodes e below.0 in
          subst (λ o. Keeps (followed_by c (visited s counted (node_visited s.chooser bit c.state.attempt e rest o)))) (sym n.1)
          (keeps-visited no_wait (node_visited s.chooser bit c.state.attempt e rest (Some n.0))
          (node-ideally s.chooser x ideal s.limits.max bit c.state.attempt e rest goes n.0 n.1 (class-there n.0 e n.1))
          (node-extends s.chooser bit c.state.attempt e rest (Some n.0))
          (node-pends s.chooser sound bit c.state.attempt e rest below n.0 n.1))

      -- an attempt starts, or goes on
      keeps-shape_turn : (bit : ℕ → Bit) (p : List ℕ) → c.state.attempt.pending ≡ p → Keeps (followed_by c (shape_turn s bit counted p))
      keeps-shape_turn bit [] nothing =
          let body = has_body s.chooser.spec sound 0 sound.a_class in
          let here : body_of s.chooser.spec 0 ≡ Some (slice_index s.chooser.spec.bodies 0) = class-zero body.0 body.1 in
          let first = begun s.chooser.spec s.limits.max c.state.attempt.used in
          record {
            goes = goes-on s.chooser.spec x s.limits c k.goes (with_attempt counted first) [] [] going (ap (λ cs. cs ++ []) (work.idle nothing)) refl refl refl;
            few = k.few;
            opened = λ _. record {
              at_work = λ _. record { idle = λ p. let no : ⊥ = cc in absurd no; goes = λ _. begins s.chooser.spec x s.limits.max (slice_index s.chooser.spec.bodies 0) here; below = (body_in_range s.chooser.spec sound 0 (slice_index s.chooser.spec.bodies 0) here, tt) };
              has_shape = λ waits. absurd (let no : ⊥ = cc in no);
            };
          }
        where
          class-zero : (body : ℕ) → body_of s.chooser.spec 0 ≡ Some body → body_of s.chooser.spec 0 ≡ Some (slice_index s.chooser.spec.bodies 0)
          class-zero body h = at_index s.chooser.spec.bodies 0 (omega (arith, sound.bodies, sound.a_class))
      keeps-shape_turn bit (e ∷ rest) pending =
          subst (λ p. Keeps (followed_by c (visited s counted (visit_among s.chooser bit c.state.attempt p)))) (sym pending) (keeps-pending bit e rest pending)

    -- what a labelling means
    keeps-labelled : HasShape c.state → (bit : ℕ → Bit) (l : Labelling) → labelling bit (size_of c.state.attempt.tokens) c.state.attempt.used ≡ l → Keeps (followed_by c (labelled_with counted l))
    keeps-labelled h bit (Labelling.Given labels cells place) is =
        let given = labels-ideal bit (size_of c.state.attempt.tokens) c.state.attempt.used labels cells place is in
        record {
          goes = goes-kept s.chooser.spec x s.limits c k.goes (kept_one (at_place counted place)) cells (c.state.attempt.cells ++ cells) going refl refl fewer c.state.attempt.tokens c.state.attempt.cells cells labels refl h.shape h.least (gives-ideal s.chooser.spec h.labelled (size_of c.state.attempt.tokens) labels cells given) (entry_made (at_place counted place) labels cells) refl refl refl (sym (add-one c.state.kept)) refl;
          few = fewer;
          opened = λ e. idle-open (kept_one (at_place counted place)) refl refl refl;
        }
    keeps-labelled h bit (Labelling.Straddled m cell cells place) is = keeps-stopped c (ended counted (Ending.Undecided (RunByBits.Open.AtLabel m cell)) place) _ cells refl refl refl k
    keeps-labelled h bit (Labelling.Ended cells place) is = keeps-stopped c (ended counted Ending.TapeEnded place) _ cells refl refl refl k
    keeps-labelled h bit (Labelling.Failed cells place) is = keeps-stopped c (ended counted Ending.ReadFault place) _ cells refl refl refl k

    keeps-counted_turn : (bit : ℕ → Bit) (b : Bool) → c.state.awaits ≡ b → Keeps (followed_by c (cond b (label_turn bit counted) (shape_turn s bit counted c.state.attempt.pending)))
    keeps-counted_turn bit true waits = keeps-labelled ((k.opened going).has_shape waits) bit (labelling bit (size_of c.state.attempt.tokens) c.state.attempt.used) refl
    keeps-counted_turn bit false no_wait = keeps-shape_turn no_wait ((k.opened going).at_work no_wait) bit c.state.attempt.pending refl

  module _ (c : Course) (k : Keeps c) (fault : Option ℕ) where
    -- whether a further turn is counted
    keeps-limit : c.state.ending ≡ None → (full : Bool) → nat_eq c.state.kept s.limits.count ≡ full → (spent : Bool)
        → Keeps (followed_by c (cond full (quiet (ended c.state Ending.Done c.state.attempt.used)) (cond spent (quiet (ended c.state Ending.TurnLimit c.state.attempt.used)) (counted_turn s (bit_of s.tape (fault_place c.state fault)) (record c.state { turns = suc c.state.turns })))))
    keeps-limit going true full spent = keeps-ended c (ended c.state Ending.Done c.state.attempt.used) Ending.Done refl refl refl k
    keeps-limit going false full true = keeps-ended c (ended c.state Ending.TurnLimit c.state.attempt.used) Ending.TurnLimit refl refl refl k
    keeps-limit going false full false =
        let most = k.few in
        let other = eqb-false c.state.kept s.limits.count full in
        keeps-counted_turn c k going (omega arith) (bit_of s.tape (fault_place c.state fault)) c.state.awaits refl

    keeps-unless : (o : Option Ending) → c.state.ending ≡ o → Keeps (followed_by c (turn_unless s fault c.state o))
    keeps-unless None going = keeps-limit going (nat_eq c.state.kept s.limits.count) refl (nat_eq c.state.turns s.limits.turns)
    keeps-unless (Some ending) is_ended = keeps-ended c c.state ending is_ended refl refl k

    -- one turn more
    keeps-turn : Keeps (one_turn_on s fault c)
    keeps-turn = keeps-unless c.state.ending refl

  keeps-start : Keeps at_start
  keeps-start = record { goes = goes-start s.chooser.spec x s.limits; few = omega arith; opened = λ e. idle-open start refl refl refl }

  keeps-after : (faults : ℕ → Option ℕ) (n : ℕ) → Keeps (after s faults n)
  keeps-after faults zero = keeps-start
  keeps-after faults (suc n) = keeps-turn (after s faults n) (keeps-after faults n) (faults n)

  -- after any number of turns the course follows the ideal run
  pub after-follows : (faults : ℕ → Option ℕ) (n : ℕ) → Follows s.chooser.spec x s.limits (after s faults n)
  unfolding keeps-after
  after-follows faults n = (keeps-after faults n).goes.follows
