-- The beginnings of picks, products and lists move on, and where none is there the text has its fault.
use Rattle.std.proofs.Common.{◌≡◌, ℕ, zero, suc, ◌-◌, ◌<◌, ◌≤◌, List, [], ◌∷◌, ◌++◌, map, length, arith, refl, sym, ap, subst, Option, Some, None, length-append, decimal}
use Rattle.std.specs.Prelude.{slice_get}
use Rattle.std.proofs.lemmas.List.{length-map}
use Rattle.bz_model.specs.Spec.{Spec, Node, node_at}
use Rattle.class_system.specs.Sound.{IsSound}
use Rattle.class_system.specs.Limits.{IsWithinLimits}
use Rattle.class_system.specs.Views.{number}
use Rattle.class_system.specs.declared.ids.ExprId.{ExprId}
use Rattle.object_store.specs.declared.token.Token.TheVariants as token
use Rattle.object_store.specs.Walk.{AllBelow}
use Rattle.object_store.proofs.InRange.{union-parts, product-parts}
use Rattle.object_text.specs.declared.parse_stack.Expected.{Expected}
use Rattle.object_text.specs.declared.parse_stack.Expected.TheVariants.{Close}
use Rattle.object_text.specs.Taken.{Taken, with_token, with_object}
use Rattle.object_text.specs.Scanning.{Word, Number, BeginsWithNumber, HasNoNumber, Steps, Faults}
use Rattle.object_text.specs.Expected.{expected_parts, ReadsObject, ReadsEach, Reads, Comes, AllCanCome, HasObjects, Moves}
use Rattle.object_text.specs.Pieces.{ReadingState, IsOption, IsNoOption, IsNoByte}
use Rattle.object_text.proofs.Digits.{HasNoDigit}
use Rattle.object_text.proofs.Scans.{steps-then, steps-same, faults-through, WordThen, word-steps, word-faults, byte-differs, number-steps, number-faults}
use Rattle.object_text.proofs.TakenParts.{same}
use Rattle.object_text.proofs.Beginnings.{PartReads, union-reads, reads-union, product-reads, reads-product}
use Rattle.object_text.proofs.Living.{Lives, lives-object, lives-stack, can-come-later}
use Rattle.object_text.proofs.Moving.{moves-by, steps-by, faults-by, shorter}

mapped-get : (es : List ExprId) (i : ℕ) (p : ExprId) → slice_get es i ≡ Some p → slice_get (map number es) i ≡ Some p.0
mapped-get [] zero p e = absurd (cc)
mapped-get [] (suc i) p e = absurd (cc)
mapped-get (x ∷ es) zero p e = ap (λ (o : ExprId). Some o.0) (some-same x p e)
  where
    some-same : (x p : ExprId) → Some x ≡ Some p → x ≡ p
    some-same x p e = cc
mapped-get (x ∷ es) (suc i) p e = mapped-get es i p e

record Listed (es : List ExprId) (i n : ℕ) : Type 0 where
  part : ExprId
  there : slice_get es i ≡ Some part
  is : part.0 ≡ n

mapped-from : (es : List ExprId) (i n : ℕ) → slice_get (map number es) i ≡ Some n → Listed es i n
mapped-from [] zero n e = absurd (cc)
mapped-from [] (suc i) n e = absurd (cc)
mapped-from (x ∷ es) zero n e = record { part = x; there = refl; is = number-same x.0 n e }
  where
    number-same : (a b : ℕ) → Some a ≡ Some b → a ≡ b
    number-same a b e = cc
mapped-from (x ∷ es) (suc i) n e = let h = mapped-from es i n e in record { part = h.part; there = h.there; is = h.is }

expected-in : (s : Spec) (whole : Taken) (stack : List Expected) (es : List ExprId) (text : List ℕ) (t : Taken) → ReadsEach s same (λ rest taken. Word (41 ∷ []) (λ rest. Reads s whole stack rest taken) rest) (map number es) text t → Reads s whole (expected_parts es ++ Close ∷ stack) text t
expected-in s whole stack [] text t h = h
expected-in s whole stack (e ∷ es) text t h =
    let k = h.later in
    record { rest = h.rest; split = h.split; later = record { object = k.object; labels = k.labels; own = k.own; rest = k.rest; is_text = k.is_text; split = k.split; later = expected-in s whole stack es k.rest (with_object t k.object k.labels) k.later } }

expected-out : (s : Spec) (whole : Taken) (stack : List Expected) (es : List ExprId) (text : List ℕ) (t : Taken) → Reads s whole (expected_parts es ++ Close ∷ stack) text t → ReadsEach s same (λ rest taken. Word (41 ∷ []) (λ rest. Reads s whole stack rest taken) rest) (map number es) text t
expected-out s whole stack [] text t h = h
expected-out s whole stack (e ∷ es) text t h =
    let k = h.later in
    record { rest = h.rest; split = h.split; later = record { object = k.object; labels = k.labels; own = k.own; rest = k.rest; is_text = k.is_text; split = k.split; later = expected-out s whole stack es k.rest (with_object t k.object k.labels) k.later } }

expected-come : (s : Spec) (left : ℕ) (es : List ExprId) (stack : List Expected) → AllBelow (length s.nodes) (map number es) → AllCanCome s left stack → AllCanCome s left (expected_parts es ++ Close ∷ stack)
expected-come s left [] stack below can = (tt, can)
expected-come s left (e ∷ es) stack below can = (below.0, expected-come s left es stack below.1 can)

module _ (s : Spec) (sound : IsSound s) (limits : IsWithinLimits s) (have : HasObjects s) (e : ExprId) (text rest : List ℕ) (old : ReadingState) (can : AllCanCome s (length text) old.stack) where
  abbrev Before : Taken → List ℕ → Type 0
  Before = λ whole other. ReadsObject s e.0 (Reads s whole old.stack) other old.taken

  abbrev Behind : Taken → Taken → List ℕ → Type 0
  Behind t = λ whole other. Reads s whole old.stack other t

  lives-behind : (t : Taken) → Lives (Behind t)
  lives-behind t = lives-stack s have (length text) old.stack can t

  can-behind : length rest < length text → AllCanCome s (length rest) old.stack
  can-behind h = can-come-later s (length text) (length rest) old.stack (omega arith) can

  -- options of unions
  module _ (es : List ExprId) (at : node_at s e.0 ≡ Some (Node.Union (map number es))) (some : 1 ≤ length es) (few : length es ≤ 64) where
    abbrev Parted : Taken → ℕ → List ℕ → Type 0
    Parted = λ whole option other. PartReads s (Reads s whole old.stack) old.taken (map number es) option other

    abbrev Stopped : Taken → ℕ → List ℕ → Type 0
    Stopped = λ whole option dot. Word (46 ∷ []) (λ other. PartReads s (Reads s whole old.stack) old.taken (map number es) option other) dot

    abbrev most : ℕ
    most = length (map number es) - 1

    same-most : length (map number es) ≡ length es
    same-most = length-map es number

    small : length (map number es) - 1 ≤ 1000000
    small = omega (arith, length-map es number)

    abbrev Number' : Taken → List ℕ → Type 0
    Number' = λ whole other. Number 0 (length (map number es) - 1) (Stopped whole) other

    in-object : (whole : Taken) (other : List ℕ) → Number' whole other → Before whole other
    in-object whole other h = union-reads s e.0 (Reads s whole old.stack) other old.taken (map number es) at h

    out-object : (whole : Taken) (other : List ℕ) → Before whole other → Number' whole other
    out-object whole other h = reads-union s e.0 (Reads s whole old.stack) other old.taken (map number es) at h

    no-digit-stopped : (whole : Taken) (k : ℕ) (other : List ℕ) → Stopped whole k other → HasNoDigit other
    no-digit-stopped whole k other h = subst HasNoDigit (sym h.split) (λ d. let low = d.from_0 in omega arith)

    part-below : (i : ℕ) (p : ExprId) → slice_get es i ≡ Some p → p.0 < length s.nodes
    part-below i p there = union-parts s sound e.0 (map number es) at i p.0 (mapped-get es i p there)

    -- an option with a part lives
    lives-part : (i : ℕ) (p : ExprId) → slice_get es i ≡ Some p → Lives (λ whole other. PartReads s (Reads s whole old.stack) old.taken (map number es) i other)
    lives-part i p there =
        let k = lives-object s have p.0 (part-below i p there) (λ whole other t. Reads s whole old.stack other t) (λ t. lives-behind t) (with_token old.taken (token.Pick i)) in
        record { more = k.more; accepts = record { whole = k.accepts.whole; reads = record { part = p.0; is_part = mapped-get es i p there; reads = k.accepts.reads } } }

    lives-stopped : (i : ℕ) (p : ExprId) → slice_get es i ≡ Some p → Lives (λ whole other. Stopped whole i other)
    lives-stopped i p there = let k = lives-part i p there in record { more = 46 ∷ k.more; accepts = record { whole = k.accepts.whole; reads = record { rest = k.more; split = refl; later = k.accepts.reads } } }

    number-read : (option : ℕ) (behind : List ℕ) → BeginsWithNumber 0 (length es - 1) text option behind → Steps Before (λ whole other. Stopped whole option other) text behind
    number-read option behind n = steps-by Before Number' (λ whole other. Stopped whole option other) text behind in-object out-object
        (number-steps 0 (length (map number es) - 1) Stopped small text behind option (subst (λ k. BeginsWithNumber 0 (k - 1) text option behind) (sym (length-map es number)) n) no-digit-stopped)

    pub option-moves : (next : Option ExprId) (now : ReadingState) → IsOption es text old next now rest → Moves s (Comes s (Some e) old.stack old.taken) text next now.stack now.taken rest
    option-moves next now h = go next h.part
      where
        less : length rest < length text
        less = let n = h.number in omega (arith, ap length n.split, length-append (decimal h.option) (46 ∷ rest))

        go : (next : Option ExprId) → slice_get es h.option ≡ next → Moves s (Comes s (Some e) old.stack old.taken) text next now.stack now.taken rest
        go None part = absurd (missing es h.option part (let n = h.number in let greatest = n.greatest in omega arith))
          where
            missing : (es : List ExprId) (i : ℕ) → slice_get es i ≡ None → i < length es → ⊥
            missing [] i q lt = omega arith
            missing (x ∷ es) zero q lt = absurd (cc)
            missing (x ∷ es) (suc i) q lt = missing es i q (omega arith)
        go (Some p) part = moves-by s Before text rest refl h.taken h.stack (record {
          shorter = less;
          next_below = part-below h.option p part;
          can_come = can-behind less;
          steps =
              steps-then Before (λ whole other. Stopped whole h.option other) (λ whole other. ReadsObject s p.0 (Reads s whole old.stack) other (with_token old.taken (token.Pick h.option))) text (46 ∷ rest) rest
              (number-read h.option (46 ∷ rest) h.number)
              (steps-then (λ whole other. Stopped whole h.option other) (λ whole other. PartReads s (Reads s whole old.stack) old.taken (map number es) h.option other) (λ whole other. ReadsObject s p.0 (Reads s whole old.stack) other (with_token old.taken (token.Pick h.option))) (46 ∷ rest) rest rest
              (word-steps (46 ∷ []) (λ whole other. PartReads s (Reads s whole old.stack) old.taken (map number es) h.option other) (46 ∷ rest) rest refl)
              (steps-same (λ whole other. PartReads s (Reads s whole old.stack) old.taken (map number es) h.option other) (λ whole other. ReadsObject s p.0 (Reads s whole old.stack) other (with_token old.taken (token.Pick h.option))) rest
              (λ whole other r. record { part = p.0; is_part = mapped-get es h.option p part; reads = r })
              (λ whole other r. subst (λ n. ReadsObject s n (Reads s whole old.stack) other (with_token old.taken (token.Pick h.option))) (one-part r.part p.0 r.is_part (mapped-get es h.option p part)) r.reads)));
        })
          where
            one-part : (a b : ℕ) → slice_get (map number es) h.option ≡ Some a → slice_get (map number es) h.option ≡ Some b → a ≡ b
            one-part a b x y = cc

    first-part : (es : List ExprId) → 1 ≤ length es → (p : ExprId) × (slice_get es 0 ≡ Some p)
    first-part [] h = absurd (omega arith)
    first-part (x ∷ es) h = (x, refl)

    there : (es : List ExprId) (i : ℕ) → i < length es → (p : ExprId) × (slice_get es i ≡ Some p)
    there [] i h = absurd (omega arith)
    there (x ∷ es) zero h = (x, refl)
    there (x ∷ es) (suc i) h = there es i (omega arith)

    pub option-faults : (left : ℕ) → IsNoOption es text left → Faults (Comes s (Some e) old.stack old.taken) text left
    option-faults left (IsNoOption.no_number count none) =
        let p = first-part es some in
        let k = lives-stopped 0 p.0 p.1 in
        faults-by Before Number' text left in-object out-object
        (number-faults 0 (length (map number es) - 1) Stopped small text k.more left (omega arith) (omega arith) count (subst (λ n. HasNoNumber 0 (n - 1) text) (sym (length-map es number)) none) k.accepts)
    option-faults left (IsNoOption.no_stop option behind n count other) =
        let greatest = n.greatest in
        let p = there es option (omega arith) in
        let k = lives-part option p.0 p.1 in
        faults-through Before (λ whole other. Stopped whole option other) text behind left (number-read option behind n)
        (word-faults (46 ∷ []) (λ whole other. PartReads s (Reads s whole old.stack) old.taken (map number es) option other) behind k.more left (byte-differs 46 behind left count other) k.accepts)

  -- products
  module _ (first : ExprId) (later : List ExprId) (at : node_at s e.0 ≡ Some (Node.Product (first.0 ∷ map number later))) where
    abbrev Firsts : Taken → List ℕ → Type 0
    Firsts = λ whole other. ReadsObject s first.0 (λ other taken. ReadsEach s same (λ other taken. Word (41 ∷ []) (λ rest. Reads s whole old.stack rest taken) other) (map number later) other taken) other old.taken

    abbrev First : Taken → List ℕ → Type 0
    First = λ whole other. ReadsObject s first.0 (Reads s whole (expected_parts later ++ Close ∷ old.stack)) other old.taken

    all-below : AllBelow (length s.nodes) (first.0 ∷ map number later)
    all-below = product-parts s sound e.0 (first.0 ∷ map number later) at

    can-parts : AllCanCome s (length text) (expected_parts later ++ Close ∷ old.stack)
    can-parts = expected-come s (length text) later old.stack all-below.1 can

    firsts-in : (whole : Taken) (other : List ℕ) → First whole other → Firsts whole other
    firsts-in whole other h = record { object = h.object; labels = h.labels; own = h.own; rest = h.rest; is_text = h.is_text; split = h.split; later = expected-out s whole old.stack later h.rest (with_object old.taken h.object h.labels) h.later }

    firsts-out : (whole : Taken) (other : List ℕ) → Firsts whole other → First whole other
    firsts-out whole other h = record { object = h.object; labels = h.labels; own = h.own; rest = h.rest; is_text = h.is_text; split = h.split; later = expected-in s whole old.stack later h.rest (with_object old.taken h.object h.labels) h.later }

    pub product-moves : (next : Option ExprId) (now : ReadingState) → text ≡ 40 ∷ rest → next ≡ Some first → now.taken ≡ old.taken → now.stack ≡ expected_parts later ++ Close ∷ old.stack → Moves s (Comes s (Some e) old.stack old.taken) text next now.stack now.taken rest
    product-moves next now split is_first taken stack =
        let less = shorter (40 ∷ []) text rest split (omega arith) in
        moves-by s Before text rest is_first taken stack (record {
          shorter = less;
          next_below = all-below.0;
          can_come = can-come-later s (length text) (length rest) (expected_parts later ++ Close ∷ old.stack) (omega arith) can-parts;
          steps = steps-by Before (WordThen (40 ∷ []) Firsts) First text rest
              (λ whole other. product-reads s e.0 (Reads s whole old.stack) other old.taken first.0 (map number later) at) (λ whole other. reads-product s e.0 (Reads s whole old.stack) other old.taken first.0 (map number later) at)
              (steps-then (WordThen (40 ∷ []) Firsts) Firsts First text rest rest (word-steps (40 ∷ []) Firsts text rest split) (steps-same Firsts First rest firsts-in firsts-out));
        })

    pub product-faults : (left : ℕ) → IsNoByte 40 text left → Faults (Comes s (Some e) old.stack old.taken) text left
    product-faults left h =
        let k = lives-object s have first.0 all-below.0 (λ whole other t. Reads s whole (expected_parts later ++ Close ∷ old.stack) other t) (λ t. lives-stack s have (length text) (expected_parts later ++ Close ∷ old.stack) can-parts t) old.taken in
        faults-by Before (WordThen (40 ∷ []) Firsts) text left
        (λ whole other. product-reads s e.0 (Reads s whole old.stack) other old.taken first.0 (map number later) at) (λ whole other. reads-product s e.0 (Reads s whole old.stack) other old.taken first.0 (map number later) at)
        (word-faults (40 ∷ []) Firsts text k.more left (byte-differs 40 text left h.count h.other) (record { whole = k.accepts.whole; reads = firsts-in k.accepts.whole k.more k.accepts.reads }))

  pub product-faults-of : (es : List ExprId) → node_at s e.0 ≡ Some (Node.Product (map number es)) → (left : ℕ) → IsNoByte 40 text left → Faults (Comes s (Some e) old.stack old.taken) text left
  product-faults-of [] at left h = absurd (let two = sound.parts.at e.0 (Node.Product []) at in omega arith)
  product-faults-of (first ∷ later) at left h = product-faults first later at left h

-- the numbers of parts of a union
pub some-parts : (es : List ExprId) → 2 ≤ length (map number es) → 1 ≤ length es
some-parts es h = omega (arith, length-map es number)

-- A list of nodes has at most 64 items where the list of their numbers has.
pub few-parts : (es : List ExprId) → length (map number es) ≤ 64 → length es ≤ 64
few-parts es h = omega (arith, length-map es number)
