-- The beginning of a list, and what stands behind an object, move on; where none of it is there the text has its fault.
use Rattle.std.proofs.Common.{◌≡◌, ℕ, zero, suc, ◌+◌, ◌<◌, ◌^◌, List, [], ◌∷◌, ◌++◌, length, arith, refl, sym, ◌∙◌, ap, subst, Option, Some, None, replicate}
use Rattle.bz_model.specs.Spec.{Spec, node_at, range_at, IsInRange, IsWithinHigh}
use Rattle.class_system.specs.Sound.{IsSound}
use Rattle.class_system.specs.Limits.{IsWithinLimits}
use Rattle.class_system.specs.Views.{spec_range}
use Rattle.class_system.specs.declared.ids.ExprId.{ExprId}
use Rattle.class_system.specs.declared.ranges.Range.{Range}
use Rattle.object_text.specs.declared.parsed.Kind.{Kind}
use Rattle.object_text.specs.declared.parsed.Kind.TheVariants.{Sequence, Set, Cycle}
use Rattle.object_text.specs.declared.parse_stack.Expected.TheVariants.{Further}
use Rattle.object_text.specs.declared.parse_stack.Counted.{Counted}
use Rattle.object_text.specs.Taken.{Taken, with_object, opened, parted, closed}
use Rattle.object_text.specs.Scanning.{Word, BeginsWithByte, BeginsLike, Steps, CantGoOn, Faults}
use Rattle.object_text.specs.Expected.{opener, closer, list_node, ReadsObject, ReadsEach, Reads, Comes, AllCanCome, HasObjects, Moves}
use Rattle.object_text.specs.Pieces.{ReadingState, IsNoByte, MayEnd, MayGoOn, IsList, IsFurther, IsNoFurther}
use Rattle.object_text.proofs.Digits.{cons-same}
use Rattle.object_text.proofs.Scans.{steps-then, faults-here, WordThen, word-steps, word-faults, byte-differs}
use Rattle.object_text.proofs.Beginnings.{ReadsSome, ListReads, list-reads, reads-list}
use Rattle.object_text.proofs.Living.{Lives, lives-object, lives-stack, lives-list, can-come-later}
use Rattle.object_text.proofs.FirstBytes.{IsStart, starts}
use Rattle.object_text.proofs.Moving.{moves-by, steps-by, faults-by, byte-there, like-byte}

pub space_no_end : (kind : Kind) → 32 ≡ closer kind → ⊥
space_no_end Sequence e = absurd (omega arith)
space_no_end Set e = absurd (omega arith)
space_no_end Cycle e = absurd (omega arith)

-- no object begins with the end of a list
module _ (s : Spec) (sound : IsSound s) (limits : IsWithinLimits s) where
  pub no-object : (kind : Kind) (part : ℕ) (Later : List ℕ → Taken → Type 0) (text rest : List ℕ) (t : Taken) → text ≡ closer kind ∷ rest → ¬ (ReadsObject s part Later text t)
  no-object kind part Later text rest t split h =
      let f = starts s sound limits part h.own h.object h.labels h.is_text in
      let same : closer kind ≡ f.byte = (cons-same (closer kind) f.byte rest (f.back ++ h.rest) (sym split ∙ h.split ∙ ap (λ u. u ++ h.rest) f.is)).0 in
      go kind f.start (sym same)
    where
      go : (kind : Kind) {b : ℕ} → IsStart b → b ≡ closer kind → ⊥
      go Sequence f e = f.no_sequence_end e
      go Set f e = f.no_set_end e
      go Cycle f e = f.no_cycle_end e

module _ (s : Spec) (sound : IsSound s) (limits : IsWithinLimits s) (have : HasObjects s) (text rest : List ℕ) (old : ReadingState) (can : AllCanCome s (length text) old.stack) where
  abbrev Behind : Taken → Taken → List ℕ → Type 0
  Behind t = λ whole other. Reads s whole old.stack other t

  lives-behind : (t : Taken) → Lives (Behind t)
  lives-behind t = lives-stack s have (length text) old.stack can t

  can-behind : length rest < length text → AllCanCome s (length rest) old.stack
  can-behind h = can-come-later s (length text) (length rest) old.stack (omega arith) can

  -- the beginning of a list
  module _ (e : ExprId) (kind : Kind) (part : ExprId) (range : Range) (at : node_at s e.0 ≡ Some (list_node kind part.0)) (range_is : range_at s e.0 ≡ Some (spec_range range)) (below : part.0 < length s.nodes) (some : IsWithinHigh range.low range.high) (one : IsWithinHigh 1 range.high) (small : length text < 2 ^ 32) where
    abbrev Before : Taken → List ℕ → Type 0
    Before = λ whole other. ReadsObject s e.0 (Reads s whole old.stack) other old.taken

    abbrev Opened : Taken → List ℕ → Type 0
    Opened = λ whole other. ListReads s (Reads s whole old.stack) old.taken kind part.0 (range_at s e.0) other

    abbrev counted : Counted
    counted = record { kind = kind; part = part; range = range; parts = 0 }

    abbrev First : Taken → List ℕ → Type 0
    First = λ whole other. ReadsObject s part.0 (Reads s whole (Further counted ∷ old.stack)) other (opened kind old.taken)

    in-object : (whole : Taken) (other : List ℕ) → WordThen (opener kind ∷ []) Opened whole other → Before whole other
    in-object whole other h = list-reads s e.0 (Reads s whole old.stack) other old.taken kind part.0 at h

    out-object : (whole : Taken) (other : List ℕ) → Before whole other → WordThen (opener kind ∷ []) Opened whole other
    out-object whole other h = reads-list s e.0 (Reads s whole old.stack) other old.taken kind part.0 at h

    one-more : (n : ℕ) → 0 + 1 + n ≡ suc n
    one-more n = omega arith

    -- a list whose first part comes
    first-in : (whole : Taken) (other : List ℕ) → First whole other → Opened whole other
    first-in whole other h =
        let k = h.later in
        record {
          parts = suc k.further;
          in_range = subst (IsInRange (suc k.further)) (sym range_is) (subst (λ n. IsInRange n (Some (spec_range range))) (one-more k.further) k.in_range);
          reads = record {
            object = h.object;
            labels = h.labels;
            own = h.own;
            rest = h.rest;
            is_text = h.is_text;
            split = h.split;
            later = subst (λ n. ReadsEach s parted (λ rest taken. Word (closer kind ∷ []) (λ rest. Reads s whole old.stack rest (closed n taken)) rest) (replicate k.further part.0) h.rest (parted (with_object (opened kind old.taken) h.object h.labels))) (one-more k.further) k.reads;
          };
        }

    first-out : (whole : Taken) (other : List ℕ) → ¬ (MayEnd kind range 0 other) → Opened whole other → First whole other
    first-out whole other never h = go h.parts h.in_range h.reads
      where
        go : (n : ℕ) → IsInRange n (range_at s e.0) → ReadsSome s (Reads s whole old.stack) kind part.0 n other (opened kind old.taken) → First whole other
        go zero r k = absurd (never (record { in_range = subst (IsInRange 0) range_is r; closes = byte-there (closer kind) other k.rest k.split }))
        go (suc n) r k = record {
          object = k.object;
          labels = k.labels;
          own = k.own;
          rest = k.rest;
          is_text = k.is_text;
          split = k.split;
          later = record {
            further = n;
            in_range = subst (λ m. IsInRange m (Some (spec_range range))) (sym (one-more n)) (subst (IsInRange (suc n)) range_is r);
            reads = subst (λ m. ReadsEach s parted (λ rest taken. Word (closer kind ∷ []) (λ rest. Reads s whole old.stack rest (closed m taken)) rest) (replicate n part.0) k.rest (parted (with_object (opened kind old.taken) k.object k.labels))) (sym (one-more n)) k.later;
          };
        }

    never-like : (other : List ℕ) → BeginsLike rest other → ¬ (MayEnd kind range 0 rest) → ¬ (MayEnd kind range 0 other)
    never-like [] like never m = elim m.closes [ ]
    never-like (b ∷ other) like never m = never (record { in_range = m.in_range; closes = subst (λ c. BeginsWithByte c rest) m.closes (like-byte b rest (b ∷ other) other like refl) })

    -- a list without parts
    empty-in : IsInRange 0 (Some (spec_range range)) → (whole : Taken) (other : List ℕ) → Word (closer kind ∷ []) (λ other. Reads s whole old.stack other (closed 0 (opened kind old.taken))) other → Opened whole other
    empty-in r whole other h = record { parts = 0; in_range = subst (IsInRange 0) (sym range_is) r; reads = h }

    empty-out : (whole : Taken) (other : List ℕ) → Opened whole (closer kind ∷ other) → Word (closer kind ∷ []) (λ other. Reads s whole old.stack other (closed 0 (opened kind old.taken))) (closer kind ∷ other)
    empty-out whole other h = go h.parts h.reads
      where
        go : (n : ℕ) → ReadsSome s (Reads s whole old.stack) kind part.0 n (closer kind ∷ other) (opened kind old.taken) → Word (closer kind ∷ []) (λ other. Reads s whole old.stack other (closed 0 (opened kind old.taken))) (closer kind ∷ other)
        go zero k = k
        go (suc n) k = absurd (no-object s sound limits kind part.0 (λ rest taken. ReadsEach s parted (λ rest taken. Word (closer kind ∷ []) (λ rest. Reads s whole old.stack rest (closed (suc n) taken)) rest) (replicate n part.0) rest (parted taken)) (closer kind ∷ other) other (opened kind old.taken) refl k)

    empty-steps : IsInRange 0 (Some (spec_range range)) → Steps Opened (Behind (closed 0 (opened kind old.taken))) (closer kind ∷ rest) rest
    empty-steps r = record {
      front = closer kind ∷ [];
      split = refl;
      back = λ whole other h. empty-in r whole (closer kind ∷ other) (record { rest = other; split = refl; later = h });
      forth = λ whole other like h. let k = empty-out whole other h in subst (λ u. Reads s whole old.stack u (closed 0 (opened kind old.taken))) (sym (cons-same (closer kind) (closer kind) other k.rest k.split).1) k.later;
    }

    first-steps : ¬ (MayEnd kind range 0 rest) → Steps Opened First rest rest
    first-steps never = record { front = []; split = refl; back = λ whole other h. first-in whole other h; forth = λ whole other like h. first-out whole other (never-like other like never) h }

    pub list-moves : (next : Option ExprId) (now : ReadingState) → IsList kind part range text old next now rest → Moves s (Comes s (Some e) old.stack old.taken) text next now.stack now.taken rest
    list-moves next now (IsList.empty r split over taken stack) =
        let less : length rest < length text = omega (arith, ap length split) in
        moves-by s Before text rest over taken stack (record {
          shorter = less;
          next_below = tt;
          can_come = can-behind less;
          steps = steps-by Before (WordThen (opener kind ∷ []) Opened) (Behind (closed 0 (opened kind old.taken))) text rest in-object out-object
              (steps-then (WordThen (opener kind ∷ []) Opened) Opened (Behind (closed 0 (opened kind old.taken))) text (closer kind ∷ rest) rest (word-steps (opener kind ∷ []) Opened text (closer kind ∷ rest) split) (empty-steps r));
        })
    list-moves next now (IsList.begun never split is_part taken stack) =
        let less : length rest < length text = omega (arith, ap length split) in
        moves-by s Before text rest is_part taken stack (record {
          shorter = less;
          next_below = below;
          can_come = (record { part_below = below; few = omega arith; range_some = some; below_high = one }, can-behind less);
          steps = steps-by Before (WordThen (opener kind ∷ []) Opened) First text rest in-object out-object
              (steps-then (WordThen (opener kind ∷ []) Opened) Opened First text rest rest (word-steps (opener kind ∷ []) Opened text rest split) (first-steps never));
        })

    pub list-faults : (left : ℕ) → IsNoByte (opener kind) text left → Faults (Comes s (Some e) old.stack old.taken) text left
    list-faults left h =
        let k = lives-object s have part.0 below (λ whole other t. Reads s whole (Further counted ∷ old.stack) other t)
        (λ t. lives-list s have counted (0 + 1) below some one (λ whole n other u. Reads s whole old.stack other (closed n u)) (λ n u. lives-behind (closed n u)) (parted t)) (opened kind old.taken) in
        faults-by Before (WordThen (opener kind ∷ []) Opened) text left in-object out-object
        (word-faults (opener kind ∷ []) Opened text k.more left (byte-differs (opener kind) text left h.count h.other) (record { whole = k.accepts.whole; reads = first-in k.accepts.whole k.more k.accepts.reads }))

  -- behind a part of a list
  module _ (c : Counted) (part_below : c.part.0 < length s.nodes) (few : c.parts + 1 + length text < 2 ^ 32) (some : IsWithinHigh c.range.low c.range.high) (within : IsWithinHigh (c.parts + 1) c.range.high) where
    abbrev List' : Taken → List ℕ → Type 0
    List' = λ whole other. Reads s whole (Further c ∷ old.stack) other old.taken

    abbrev next_counted : Counted
    next_counted = record { kind = c.kind; part = c.part; range = c.range; parts = c.parts + 1 }

    abbrev Another : Taken → List ℕ → Type 0
    Another = λ whole other. ReadsObject s c.part.0 (Reads s whole (Further next_counted ∷ old.stack)) other (parted old.taken)

    no-more : (n : ℕ) → n + 0 ≡ n
    no-more n = omega arith

    one-further : (n k : ℕ) → n + suc k ≡ n + 1 + k
    one-further n k = omega arith

    end-in : IsInRange (c.parts + 1) (Some (spec_range c.range)) → (whole : Taken) (other : List ℕ) → Reads s whole old.stack other (closed (c.parts + 1) (parted old.taken)) → List' whole (closer c.kind ∷ other)
    end-in r whole other h = record {
      further = 0;
      in_range = subst (λ n. IsInRange n (Some (spec_range c.range))) (sym (no-more (c.parts + 1))) r;
      reads = record { rest = other; split = refl; later = subst (λ n. Reads s whole old.stack other (closed n (parted old.taken))) (sym (no-more (c.parts + 1))) h };
    }

    end-out : (whole : Taken) (other : List ℕ) → List' whole (closer c.kind ∷ other) → Reads s whole old.stack other (closed (c.parts + 1) (parted old.taken))
    end-out whole other h = go h.further h.reads
      where
        go : (n : ℕ) → ReadsEach s parted (λ rest taken. Word (closer c.kind ∷ []) (λ rest. Reads s whole old.stack rest (closed (c.parts + 1 + n) taken)) rest) (replicate n c.part.0) (closer c.kind ∷ other) (parted old.taken) → Reads s whole old.stack other (closed (c.parts + 1) (parted old.taken))
        go zero k = subst (λ u. Reads s whole old.stack u (closed (c.parts + 1) (parted old.taken))) (sym (cons-same (closer c.kind) (closer c.kind) other k.rest k.split).1) (subst (λ n. Reads s whole old.stack k.rest (closed n (parted old.taken))) (no-more (c.parts + 1)) k.later)
        go (suc n) k = absurd (space_no_end c.kind (sym (cons-same (closer c.kind) 32 other k.rest k.split).0))

    another-in : (whole : Taken) (other : List ℕ) → Another whole other → List' whole (32 ∷ other)
    another-in whole other h =
        let k = h.later in
        record {
          further = suc k.further;
          in_range = subst (λ n. IsInRange n (Some (spec_range c.range))) (sym (one-further (c.parts + 1) k.further)) k.in_range;
          reads = record {
            rest = other;
            split = refl;
            later = record {
              object = h.object;
              labels = h.labels;
              own = h.own;
              rest = h.rest;
              is_text = h.is_text;
              split = h.split;
              later = subst (λ n. ReadsEach s parted (λ rest taken. Word (closer c.kind ∷ []) (λ rest. Reads s whole old.stack rest (closed n taken)) rest) (replicate k.further c.part.0) h.rest (parted (with_object (parted old.taken) h.object h.labels))) (sym (one-further (c.parts + 1) k.further)) k.reads;
            };
          };
        }

    another-out : (whole : Taken) (other : List ℕ) → List' whole (32 ∷ other) → Another whole other
    another-out whole other h = go h.further h.in_range h.reads
      where
        go : (n : ℕ) → IsInRange (c.parts + 1 + n) (Some (spec_range c.range)) → ReadsEach s parted (λ rest taken. Word (closer c.kind ∷ []) (λ rest. Reads s whole old.stack rest (closed (c.parts + 1 + n) taken)) rest) (replicate n c.part.0) (32 ∷ other) (parted old.taken) → Another whole other
        go zero r k = absurd (space_no_end c.kind (cons-same 32 (closer c.kind) other k.rest k.split).0)
        go (suc n) r k =
            let o = k.later in
            record {
              object = o.object;
              labels = o.labels;
              own = o.own;
              rest = o.rest;
              is_text = o.is_text;
              split = (cons-same 32 32 other k.rest k.split).1 ∙ o.split;
              later = record {
                further = n;
                in_range = subst (λ m. IsInRange m (Some (spec_range c.range))) (one-further (c.parts + 1) n) r;
                reads = subst (λ m. ReadsEach s parted (λ rest taken. Word (closer c.kind ∷ []) (λ rest. Reads s whole old.stack rest (closed m taken)) rest) (replicate n c.part.0) o.rest (parted (with_object (parted old.taken) o.object o.labels))) (one-further (c.parts + 1) n) o.later;
              };
            }

    pub further-moves : (next : Option ExprId) (now : ReadingState) → IsFurther c text old next now rest → Moves s List' text next now.stack now.taken rest
    further-moves next now (IsFurther.ended r split over taken stack) =
        let less : length rest < length text = omega (arith, ap length split) in
        moves-by s List' text rest over taken stack (record {
          shorter = less;
          next_below = tt;
          can_come = can-behind less;
          steps = record { front = closer c.kind ∷ []; split = split; back = λ whole other h. end-in r whole other h; forth = λ whole other like h. end-out whole other h };
        })
    further-moves next now (IsFurther.goes_on high split is_part taken stack) =
        let less : length rest < length text = omega (arith, ap length split) in
        moves-by s List' text rest is_part taken stack (record {
          shorter = less;
          next_below = part_below;
          can_come = (record { part_below = part_below; few = omega arith; range_some = some; below_high = high }, can-behind less);
          steps = record { front = 32 ∷ []; split = split; back = λ whole other h. another-in whole other h; forth = λ whole other like h. another-out whole other h };
        })

    -- a number of parts that is more than allowed
    too-many : (n k : ℕ) (high : Option ℕ) → IsWithinHigh (n + suc k) high → IsWithinHigh (n + 1) high
    too-many n k None h = tt
    too-many n k (Some high) h = omega arith

    pub further-faults : (left : ℕ) → IsNoFurther c text left → Faults List' text left
    further-faults left h =
        let k = lives-list s have c (c.parts + 1) part_below some within (λ whole n other u. Reads s whole old.stack other (closed n u)) (λ n u. lives-behind (closed n u)) (parted old.taken) in
        faults-here List' text k.more left h.count k.accepts (go text h.no_end h.no_part)
      where
        none-empty : (whole : Taken) (n m : ℕ) → ReadsEach s parted (λ rest taken. Word (closer c.kind ∷ []) (λ rest. Reads s whole old.stack rest (closed m taken)) rest) (replicate n c.part.0) [] (parted old.taken) → ⊥
        none-empty whole zero m k = absurd (let e = k.split in cc)
        none-empty whole (suc n) m k = absurd (let e = k.split in cc)

        go : (text : List ℕ) → ¬ (MayEnd c.kind c.range (c.parts + 1) text) → ¬ (MayGoOn c.range (c.parts + 1) text) → CantGoOn List' [] text
        go [] no_end no_part = λ a. none-empty a.whole a.reads.further (c.parts + 1 + a.reads.further) a.reads.reads
        go (b ∷ back) no_end no_part = λ more a. parts a.whole more a.reads.further a.reads.in_range a.reads.reads
          where
            parts : (whole : Taken) (more : List ℕ) (n : ℕ) → IsInRange (c.parts + 1 + n) (Some (spec_range c.range)) → ReadsEach s parted (λ rest taken. Word (closer c.kind ∷ []) (λ rest. Reads s whole old.stack rest (closed (c.parts + 1 + n) taken)) rest) (replicate n c.part.0) (b ∷ more) (parted old.taken) → ⊥
            parts whole more zero r k = no_end (record { in_range = subst (λ m. IsInRange m (Some (spec_range c.range))) (no-more (c.parts + 1)) r; closes = (cons-same b (closer c.kind) more k.rest k.split).0 })
            parts whole more (suc n) r k = no_part (record { below_high = too-many (c.parts + 1) n c.range.high r.1; space = (cons-same b 32 more k.rest k.split).0 })
