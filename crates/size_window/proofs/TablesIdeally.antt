-- The chooser by a sound table decides ideally, and chooses by the table.
use Rattle.std.proofs.Common.{◌≡◌, ℕ, ◌≤◌, Bool, List, Option, Some, None, refl, sym, ◌∙◌, ap}
use Rattle.std.specs.Prelude.{IsTrue, ◌↔◌}
use Rattle.bz_model.specs.declared.cell.Cell.{Cell}
use Rattle.bz_model.specs.declared.cell.Bounds.{Bounds}
use Rattle.bz_model.specs.Fraction.{Fraction}
use Rattle.bz_model.specs.Spec.{Spec, Node, node_at}
use Rattle.bz_model.specs.Object.{Object, Objects}
use Rattle.bz_model.specs.Measures.{HasZero}
use Rattle.bz_model.specs.Making.{IsCounted}
use Rattle.bz_model.specs.Cell.{IsCell, IsInCell}
use Rattle.bz_model.specs.Ideal.{IsIdealOption}
use Rattle.bz_model.specs.Oracle as oracle
use Rattle.class_system.specs.Sound.{IsSound}
use Rattle.series_bounds.specs.Series.{Kind}
use Rattle.choice_draw.specs.Decision.{Choice, IsUnion, union_choice, union_decision}
use Rattle.choice_draw.specs.Decision as decision
use Rattle.count_draw.specs.Kinds.{counted_node}
use Rattle.count_draw.specs.Decision.{count_decision}
use Rattle.shape_sampler.specs.Answer.{ChoosesBy}
use Rattle.size_window.specs.Ideally.{DecidesIdeally, decision_by, chooser_of}
use Rattle.size_window.proofs.UnionsIdeally.{union-takes, never_over, part-below}
use Rattle.size_window.proofs.CountsIdeally.{count-takes, count-within, count-over, free-never_over}

-- A node takes a union's option, or a number of parts, or nothing is decided there.
data Decided (s : Spec) (f : ℕ) (table : (level node : ℕ) → Bounds) (e room : ℕ) (o : Option Node) : Type 0 where
  at_union : (parts : List ℕ) → o ≡ Some (Node.Union parts) → Decided s f table e room o
  at_counted : (kind : Kind) (part : ℕ) → o ≡ Some (counted_node kind part) → Decided s f table e room o
  nowhere : ((cell : Cell) → decision_by s f table e room o cell ≡ None) → Decided s f table e room o

decided_at : (s : Spec) (f : ℕ) (table : (level node : ℕ) → Bounds) (e room : ℕ) (o : Option Node) → Decided s f table e room o
decided_at s f table e room (Some (Node.Union parts)) = Decided.at_union parts refl
decided_at s f table e room (Some (Node.Seq part)) = Decided.at_counted Kind.Seq part refl
decided_at s f table e room (Some (Node.Set part)) = Decided.at_counted Kind.Set part refl
decided_at s f table e room (Some (Node.Cyc part)) = Decided.at_counted Kind.Cyc part refl
decided_at s f table e room None = Decided.nowhere (λ cell. refl)
decided_at s f table e room (Some (Node.Empty word)) = Decided.nowhere (λ cell. refl)
decided_at s f table e room (Some (Node.Atom word)) = Decided.nowhere (λ cell. refl)
decided_at s f table e room (Some (Node.Class class)) = Decided.nowhere (λ cell. refl)
decided_at s f table e room (Some (Node.Product parts)) = Decided.nowhere (λ cell. refl)

-- a sequence, set or cycle of a part
kind-of : (node : Node) (part : ℕ) (form : Objects → Object) → IsCounted node part form → (kind : Kind) × (node ≡ counted_node kind part)
kind-of (Node.Seq p) part form h = (Kind.Seq, ap Node.Seq h.0)
kind-of (Node.Set p) part form h = (Kind.Set, ap Node.Set h.0)
kind-of (Node.Cyc p) part form h = (Kind.Cyc, ap Node.Cyc h.0)
kind-of (Node.Empty word) part form h = absurd h
kind-of (Node.Atom word) part form h = absurd h
kind-of (Node.Class class) part form h = absurd h
kind-of (Node.Union parts) part form h = absurd h
kind-of (Node.Product parts) part form h = absurd h

counts-by : (s : Spec) (f : ℕ) (table : (level node : ℕ) → Bounds) (e room part : ℕ) (kind : Kind) → decision_by s f table e room (Some (counted_node kind part)) ≡ count_decision s f table e room
counts-by s f table e room part Kind.Seq = refl
counts-by s f table e room part Kind.Set = refl
counts-by s f table e room part Kind.Cyc = refl

module _ (s : Spec) (f : ℕ) (table : (level node : ℕ) → Bounds) (e room : ℕ) where
  -- the decision at a union, and at a sequence, set or cycle
  by_union : (parts : List ℕ) → node_at s e ≡ Some (Node.Union parts) → decision_by s f table e room (node_at s e) ≡ union_decision s table e
  by_union parts at = ap (decision_by s f table e room) at

  by_count : (part : ℕ) (kind : Kind) → node_at s e ≡ Some (counted_node kind part) → decision_by s f table e room (node_at s e) ≡ count_decision s f table e room
  by_count part kind at = ap (decision_by s f table e room) at ∙ counts-by s f table e room part kind

  union-decided : (parts : List ℕ) (cell : Cell) (choice : Choice) → node_at s e ≡ Some (Node.Union parts) → decision_by s f table e room (node_at s e) cell ≡ Some choice → union_choice table e parts cell ≡ Some choice
  union-decided parts cell choice at decided =
      sym (ap (λ o. union_choice table e (decision.union_parts o) cell) at)
      ∙ sym (ap (λ (d : Cell → Option Choice). d cell) (by_union parts at))
      ∙ decided

  count-decided : (part : ℕ) (kind : Kind) (cell : Cell) (choice : Choice) → node_at s e ≡ Some (counted_node kind part) → decision_by s f table e room (node_at s e) cell ≡ Some choice → count_decision s f table e room cell ≡ Some choice
  count-decided part kind cell choice at decided = sym (ap (λ (d : Cell → Option Choice). d cell) (by_count part kind at)) ∙ decided

-- it chooses by its table
pub chooses-by : (s : Spec) (f : ℕ) (table : (level node : ℕ) → Bounds) (is_free : ℕ → Bool) → ((part : ℕ) → IsTrue (is_free part) ↔ HasZero s part) → ChoosesBy s f table (chooser_of s f table is_free)
chooses-by s f table is_free frees = record {
  same_spec = refl;
  at_unions = λ e room union. by_union s f table e room union.parts union.here;
  at_counted = λ e room counted. by_count s f table e room counted.part counted.kind counted.here;
  frees = frees;
}

module _ (s : Spec) (x : Fraction) (F : ℕ) (table : (level node : ℕ) → Bounds) (is_free : ℕ → Bool) (sound : IsSound s) (bounded : oracle.IsSoundTable s x F table) (frees : (part : ℕ) → IsTrue (is_free part) ↔ HasZero s part) where
  takes : (e room i : ℕ) (cell : Cell) → Decided s F table e room (node_at s e) → IsCell cell.k cell.b → decision_by s F table e room (node_at s e) cell ≡ Some (Choice.Take i) → (u : Fraction) → IsInCell cell.k cell.b u → IsIdealOption s x u e i
  takes e room i cell (Decided.at_union parts at) is_cell decided u inside = union-takes s x F table sound bounded e i cell parts at is_cell (union-decided s F table e room parts cell (Choice.Take i) at decided) u inside
  takes e room i cell (Decided.at_counted kind part at) is_cell decided u inside = count-takes s x F table sound bounded e part kind at room i cell is_cell (count-decided s F table e room part kind cell (Choice.Take i) at decided) u inside
  takes e room i cell (Decided.nowhere none) is_cell decided u inside = absurd (let h = none cell in cc)

  over : (e room : ℕ) (cell : Cell) → Decided s F table e room (node_at s e) → IsCell cell.k cell.b → decision_by s F table e room (node_at s e) cell ≡ Some Choice.Over → (u : Fraction) → IsInCell cell.k cell.b u → (i : ℕ) → i ≤ room → ¬ (IsIdealOption s x u e i)
  over e room cell (Decided.at_union parts at) is_cell decided u inside i le = absurd (never_over s x F table sound bounded e cell parts (union-decided s F table e room parts cell Choice.Over at decided))
  over e room cell (Decided.at_counted kind part at) is_cell decided u inside i le = count-over s x F table sound bounded e part kind at room cell is_cell (count-decided s F table e room part kind cell Choice.Over at decided) u inside i le
  over e room cell (Decided.nowhere none) is_cell decided u inside i le = absurd (let h = none cell in cc)

  pub table-ideally : DecidesIdeally (chooser_of s F table is_free) x
  table-ideally = record {
    takes = λ e room i cell is_cell decided u inside. takes e room i cell (decided_at s F table e room (node_at s e)) is_cell decided u inside;
    part = λ e room i cell parts here decided. part-below s x F table sound bounded e i cell parts (union-decided s F table e room parts cell (Choice.Take i) here decided);
    no_over = λ e room cell parts here decided. never_over s x F table sound bounded e cell parts (union-decided s F table e room parts cell Choice.Over here decided);
    within = λ e room i cell decided part node form here counted.
        let k = kind-of node part form counted in
        let at : node_at s e ≡ Some (counted_node k.0 part) = here ∙ ap Some k.1 in
        count-within s x F table sound bounded e part k.0 at room i cell (count-decided s F table e room part k.0 cell (Choice.Take i) at decided);
    over = λ e room cell is_cell decided u inside i le. over e room cell (decided_at s F table e room (node_at s e)) is_cell decided u inside i le;
    no_over_free = λ e part cell node form here counted free decided.
        let k = kind-of node part form counted in
        let at : node_at s e ≡ Some (counted_node k.0 part) = here ∙ ap Some k.1 in
        free-never_over s x F table sound bounded e part k.0 at ((frees part).0 free) cell (count-decided s F table e 64 part k.0 cell Choice.Over at decided);
    free = λ e part node form here counted free. (frees part).0 free;
    taking = λ e part node form here counted taking zero. let free = (frees part).1 zero in cc;
  }
