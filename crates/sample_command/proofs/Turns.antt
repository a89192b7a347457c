-- Drawings under way, with one turn more.
use Rattle.std.proofs.Common.{◌≡◌, ℕ, ◌+◌, ◌-◌, ◌≤◌, max, Bool, List, ◌++◌, ◌∙◌, ap, subst, arith, append_assoc, sym}
use Rattle.std.specs.Prelude.{Option, option_to_list, slice_index}
use Rattle.bz_model.specs.declared.cell.Bounds.{Bounds}
use Rattle.bz_model.specs.Fraction.{Fraction}
use Rattle.bz_model.specs.Oracle.{cost_between}
use Rattle.bz_model.specs.Spec.{Spec}
use Rattle.bz_outside.specs.Outside.{AppendsFront}
use Rattle.bit_tape.specs.Tape.{TapeSource}
use Rattle.choice_draw.specs.Decision.{level_for}
use Rattle.oracle_memo.specs.Levels.{cost_at, costs}
use Rattle.oracle_memo.proofs.Raising.{costs-at}
use Rattle.size_window.specs.declared.turned.Turned.{Turned as Answer}
use Rattle.size_window.specs.RunByBits.{Limits}
use Rattle.size_window.specs.Drawing.{DrawingState}
use Rattle.size_window.specs.Turn.{told_entry, node_bits}
use Rattle.call_stages.specs.Ends.{IsHeld}
use Rattle.call_stages.proofs.Held.{held-more, held-front}
use Rattle.sample_command.specs.UnderWay.{IsUnderWay, IsBroken}
use Rattle.sample_command.proofs.AtTheEnd.{broken-off}
use Rattle.sample_command.proofs.OneTurn.{Appended, TellsTurn, so-far-on, entries-on, lines-on}

-- the level for more bits is the greater one
level-max : (a b : ℕ) → max (level_for a) (level_for b) ≡ level_for (max a b)
level-max a b = omega arith

-- If levels are raised as `most` bits ask for, raising them as `bits` bits ask for too leaves them
-- at the level for the greater of the two numbers.
pub raised-for : (raised now most bits : ℕ) → raised ≡ level_for most → now ≡ max raised (level_for bits) → now ≡ level_for (max most bits)
raised-for raised now most bits old new = new ∙ ap (λ r. max r (level_for bits)) old ∙ level-max most bits

module _ (s : Spec) (x : Fraction) (F : ℕ) (table : (level node : ℕ) → Bounds) (limits : Limits) (told : Option (ℕ → Option Bool)) (d now : DrawingState) (start used : ℕ) (a : Answer) (h : TellsTurn s x F table limits told d now start used a) (raised raised_now : ℕ) (raises : raised_now ≡ max raised (level_for (node_bits d.waiting (used - start)))) (header : List ℕ) (from at : Option (List ℕ)) (page : List ℕ) (p : IsUnderWay s x F table limits told d start raised header from at page) where
  -- it is under way still, and the lines of what was kept are held back
  pub under-way-on : (more : List ℕ) → Appended s (told_entry a) more → IsUnderWay s x F table limits told now used raised_now header from at (page ++ more)
  under-way-on more appended = record {
    most = max p.most (node_bits d.waiting (used - start));
    so_far = so-far-on s x F table limits told d now start used a h p.most p.so_far;
    lines = p.lines ++ more;
    lists = lines-on s x F table limits told d now start used a h p.most p.so_far p.lines more p.lists appended;
    raised_is = raised-for raised raised_now p.most (node_bits d.waiting (used - start)) p.raised_is raises;
    held_is = subst (IsHeld from at (page ++ more)) (append_assoc header p.lines more) (held-more from at page (header ++ p.lines) more p.held_is);
  }

  -- the lines of what was kept could not be made
  pub broken-on : IsBroken s x F table limits told now used raised_now header from at
  broken-on = record {
    most = max p.most (node_bits d.waiting (used - start));
    so_far = so-far-on s x F table limits told d now start used a h p.most p.so_far;
    first = p.so_far.course.entries;
    others = option_to_list (told_entry a);
    entries = entries-on s x F table limits told d now start used a h p.most p.so_far;
    lines = p.lines;
    lists = p.lists;
    raised_is = raised-for raised raised_now p.most (node_bits d.waiting (used - start)) p.raised_is raises;
    front = held-front from at page (header ++ p.lines) p.held_is;
  }

-- a turn without memory changes nothing
pub broken-still : (s : Spec) (x : Fraction) (F : ℕ) (table : (level node : ℕ) → Bounds) (limits : Limits) (told : Option (ℕ → Option Bool)) (d now : DrawingState) (used later raised raised_now : ℕ) (header : List ℕ) (from at : Option (List ℕ)) (page : List ℕ) → now ≡ d → later ≡ used → raised_now ≡ raised → IsUnderWay s x F table limits told d used raised header from at page → IsBroken s x F table limits told now later raised_now header from at
broken-still s x F table limits told d now used later raised raised_now header from at page same place levels p =
    subst (λ z. IsBroken s x F table limits told z later raised_now header from at) (sym same)
    (subst (λ n. IsBroken s x F table limits told d n raised_now header from at) (sym place)
    (subst (λ n. IsBroken s x F table limits told d used n header from at) (sym levels)
    (broken-off s x F table limits told d used raised header from at at page p (held-front from at page (header ++ p.lines) p.held_is))))

-- what holds over equal numbers, tables, limits, tapes and contents holds
pub moved-five : (P : Fraction → ((level node : ℕ) → Bounds) → Limits → TapeSource → (List ℕ → Option (List ℕ)) → Type 0) (x y : Fraction) (t u : (level node : ℕ) → Bounds) (l m : Limits) (s r : TapeSource) (c k : List ℕ → Option (List ℕ)) → y ≡ x → u ≡ t → m ≡ l → r ≡ s → k ≡ c → P y u m r k → P x t l s c
moved-five P x y t u l m s r c k ex et el es ec h =
    subst (λ a. P a t l s c) ex (subst (λ a. P y a l s c) et (subst (λ a. P y u a s c) el (subst (λ a. P y u m a c) es (subst (λ a. P y u m r a) ec h))))

-- the levels of a memo cost what they cost from level 0 on
pub costs-from-none : (raised now start end : ℕ) → raised ≡ 0 → now ≤ 6 → end ≤ start + cost_between costs raised now → end ≤ start + cost_at now
costs-from-none raised now start end none six few =
    let last : slice_index costs now ≡ cost_at now = costs-at now six in
    omega (arith, few, last)

-- what is held back was written, or is held back still
pub sent-on : (s : Spec) (x : Fraction) (F : ℕ) (table : (level node : ℕ) → Bounds) (limits : Limits) (told : Option (ℕ → Option Bool)) (d : DrawingState) (used raised : ℕ) (header : List ℕ) (from at after : Option (List ℕ)) (page none : List ℕ) → ((o : Option (List ℕ)) (text : List ℕ) → IsHeld o at page text → IsHeld o after none text) → IsUnderWay s x F table limits told d used raised header from at page → IsUnderWay s x F table limits told d used raised header from after none
sent-on s x F table limits told d used raised header from at after page none held p = record { most = p.most; so_far = p.so_far; lines = p.lines; lists = p.lists; raised_is = p.raised_is; held_is = held from (header ++ p.lines) p.held_is }

-- a prefix of it was written
pub cut-on : (s : Spec) (x : Fraction) (F : ℕ) (table : (level node : ℕ) → Bounds) (limits : Limits) (told : Option (ℕ → Option Bool)) (d : DrawingState) (used raised : ℕ) (header : List ℕ) (from at after : Option (List ℕ)) (page : List ℕ) → ((o : Option (List ℕ)) (text : List ℕ) → IsHeld o at page text → AppendsFront o after text) → IsUnderWay s x F table limits told d used raised header from at page → IsBroken s x F table limits told d used raised header from after
cut-on s x F table limits told d used raised header from at after page cut p = broken-off s x F table limits told d used raised header from at after page p (cut from (header ++ p.lines) p.held_is)
