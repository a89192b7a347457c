-- What is expected can be read of some text: each node has an object, and a list may get as many parts as it must have.
use Rattle.std.proofs.Common.{◌≡◌, ℕ, zero, suc, ◌+◌, ◌-◌, ◌<◌, ◌≤◌, List, [], ◌∷◌, ◌++◌, length, arith, refl, sym, ap, subst, Option, Some, None, replicate}
use Rattle.std.specs.List.{AllByRecursion}
use Rattle.bz_model.specs.Spec.{Spec, Mode, IsWithinHigh}
use Rattle.bz_model.specs.Object.{Object}
use Rattle.bz_model.specs.Measures.{size}
use Rattle.bz_model.specs.ObjectText.{HasLabels, text_within}
use Rattle.class_system.specs.Views.{spec_range}
use Rattle.class_system.specs.declared.ids.ExprId.{ExprId}
use Rattle.object_store.specs.Walk.{AllBelow}
use Rattle.object_store.proofs.InRange.{replicate-below}
use Rattle.object_text.specs.declared.parsed.Kind.{Kind}
use Rattle.object_text.specs.declared.parsed.Kind.TheVariants.{Sequence, Set, Cycle}
use Rattle.object_text.specs.declared.parse_stack.Expected.{Expected}
use Rattle.object_text.specs.declared.parse_stack.Expected.TheVariants.{Close, Part, Further}
use Rattle.object_text.specs.declared.parse_stack.Counted.{Counted}
use Rattle.object_text.specs.Taken.{Taken, with_object, parted, closed}
use Rattle.object_text.specs.Scanning.{Word, Accepts, IsDigit}
use Rattle.object_text.specs.Expected.{closer, ReadsObject, ReadsEach, ReadsList, Reads, Comes, AllCanCome, CanCome, IsNodeIf, HasObjects}
use Rattle.object_text.proofs.Digits.{HasNoDigit}
use Rattle.object_text.proofs.ObjectTexts.{standing}

-- Something can be read of some text.
pub record Lives (Reads : Taken → List ℕ → Type 0) : Type 0 where
  pub more : List ℕ
  pub accepts : Accepts Reads more

all-ones : (n : ℕ) → AllByRecursion (λ label. (1 ≤ label) × (label ≤ 1000000)) (replicate n 1)
all-ones zero = tt
all-ones (suc n) = ((omega arith, omega arith), all-ones n)

length-ones : (n : ℕ) → length {A = ℕ} (replicate n 1) ≡ n
length-ones zero = refl
length-ones (suc n) = ap suc (length-ones n)

some_labels : (mode : Mode) (o : Object) → (l : List ℕ) × HasLabels mode o l
some_labels Mode.Unlabelled o = ([], refl)
some_labels Mode.Labelled o = (replicate (size o) 1, (length-ones (size o), all-ones (size o)))

module _ (s : Spec) (have : HasObjects s) where
  pub lives-object : (e : ℕ) → e < length s.nodes → (Later : Taken → List ℕ → Taken → Type 0) → ((t : Taken) → Lives (λ whole rest. Later whole rest t)) → (t : Taken) → Lives (λ whole text. ReadsObject s e (Later whole) text t)
  lives-object e below Later lives t =
      let o = have.object_of e below in
      let l = some_labels s.mode o.0 in
      let k = lives (with_object t o.0 l.0) in
      record {
        more = text_within standing s o.1.0 (Some e) o.0 l.0 ++ k.more;
        accepts = record {
          whole = k.accepts.whole;
          reads = record { object = o.0; labels = l.0; own = text_within standing s o.1.0 (Some e) o.0 l.0; rest = k.more; is_text = record { belongs = o.1; labelled = l.1; spelled = refl }; split = refl; later = k.accepts.reads };
        };
      }

  lives-each : (ended : Taken → Taken) (parts : List ℕ) → AllBelow (length s.nodes) parts → (Later : Taken → List ℕ → Taken → Type 0) → ((t : Taken) → Lives (λ whole rest. Later whole rest t)) → (t : Taken) → Lives (λ whole text. ReadsEach s ended (Later whole) parts text t)
  lives-each ended [] below Later lives t = lives t
  lives-each ended (part ∷ parts) below Later lives t =
      let k = lives-object part below.0 (λ whole rest u. ReadsEach s ended (Later whole) parts rest (ended u)) (λ u. lives-each ended parts below.1 Later lives (ended u)) t in
      record { more = 32 ∷ k.more; accepts = record { whole = k.accepts.whole; reads = record { rest = k.more; split = refl; later = k.accepts.reads } } }

  -- as many parts as there must be
  missing : (low parts : ℕ) (high : Option ℕ) → IsWithinHigh low high → IsWithinHigh parts high → (low ≤ parts + (low - parts)) × IsWithinHigh (parts + (low - parts)) high
  missing low parts None a b = (omega arith, tt)
  missing low parts (Some high) a b = (omega arith, omega arith)

  pub lives-list : (c : Counted) (parts : ℕ) → c.part.0 < length s.nodes → IsWithinHigh c.range.low c.range.high → IsWithinHigh parts c.range.high → (Later : Taken → ℕ → List ℕ → Taken → Type 0) → ((n : ℕ) (t : Taken) → Lives (λ whole rest. Later whole n rest t)) → (t : Taken) → Lives (λ whole text. ReadsList s c.kind c.part.0 (spec_range c.range) parts (Later whole) text t)
  lives-list c parts below some may Later lives t =
      let n : ℕ = c.range.low - parts in
      let k = lives-each parted (replicate (c.range.low - parts) c.part.0) (replicate-below (length s.nodes) (c.range.low - parts) c.part.0 below)
      (λ whole rest u. Word (closer c.kind ∷ []) (λ rest. Later whole (parts + (c.range.low - parts)) rest u) rest)
      (λ u. let m = lives (parts + (c.range.low - parts)) u in record { more = closer c.kind ∷ m.more; accepts = record { whole = m.accepts.whole; reads = record { rest = m.more; split = refl; later = m.accepts.reads } } })
      t in
      record { more = k.more; accepts = record { whole = k.accepts.whole; reads = record { further = c.range.low - parts; in_range = missing c.range.low parts c.range.high some may; reads = k.accepts.reads } } }

  pub lives-stack : (left : ℕ) (stack : List Expected) → AllCanCome s left stack → (t : Taken) → Lives (λ whole text. Reads s whole stack text t)
  lives-stack left [] can t = record { more = []; accepts = record { whole = t; reads = (refl, refl) } }
  lives-stack left (Close ∷ stack) can t =
      let k = lives-stack left stack can.1 t in
      record { more = 41 ∷ k.more; accepts = record { whole = k.accepts.whole; reads = record { rest = k.more; split = refl; later = k.accepts.reads } } }
  lives-stack left (Part e ∷ stack) can t =
      let k = lives-object e.0 can.0 (λ whole rest u. Reads s whole stack rest u) (λ u. lives-stack left stack can.1 u) t in
      record { more = 32 ∷ k.more; accepts = record { whole = k.accepts.whole; reads = record { rest = k.more; split = refl; later = k.accepts.reads } } }
  lives-stack left (Further c ∷ stack) can t =
      let o = can.0 in
      lives-list c (c.parts + 1) o.part_below o.range_some o.below_high (λ whole n rest u. Reads s whole stack rest (closed n u)) (λ n u. lives-stack left stack can.1 (closed n u)) (parted t)

  pub lives-next : (left : ℕ) (next : Option ExprId) (stack : List Expected) → IsNodeIf s next → AllCanCome s left stack → (t : Taken) → Lives (Comes s next stack t)
  lives-next left None stack below can t = lives-stack left stack can t
  lives-next left (Some e) stack below can t = lives-object e.0 below (λ whole rest u. Reads s whole stack rest u) (λ u. lives-stack left stack can u) t

-- behind an object no digit comes
no-digit : (byte : ℕ) → (IsDigit byte → ⊥) → (text rest : List ℕ) → text ≡ byte ∷ rest → HasNoDigit text
no-digit byte n text rest e = subst HasNoDigit (sym e) n

ends-no-digit : (kind : Kind) → ¬ (IsDigit (closer kind))
ends-no-digit Sequence d = let h = d.to_9 in omega arith
ends-no-digit Set d = let h = d.to_9 in omega arith
ends-no-digit Cycle d = let h = d.to_9 in omega arith

-- Where an object is read and the rest of what is expected can be read of a text, that text begins
-- with no digit.
pub reads-no-digit : (s : Spec) (whole : Taken) (stack : List Expected) (text : List ℕ) (t : Taken) → Reads s whole stack text t → HasNoDigit text
reads-no-digit s whole [] text t h = subst HasNoDigit (sym h.0) tt
reads-no-digit s whole (Close ∷ stack) text t h = no-digit 41 (λ d. let k = d.from_0 in omega arith) text h.rest h.split
reads-no-digit s whole (Part e ∷ stack) text t h = no-digit 32 (λ d. let k = d.from_0 in omega arith) text h.rest h.split
reads-no-digit s whole (Further c ∷ stack) text t h = go h.further (c.parts + 1 + h.further) h.reads
  where
    go : (n k : ℕ) → ReadsEach s parted (λ rest taken. Word (closer c.kind ∷ []) (λ rest. Reads s whole stack rest (closed k taken)) rest) (replicate n c.part.0) text (parted t) → HasNoDigit text
    go zero k r = no-digit (closer c.kind) (ends-no-digit c.kind) text r.rest r.split
    go (suc n) k r = no-digit 32 (λ d. let z = d.from_0 in omega arith) text r.rest r.split

-- less of the text is left
pub can-come-later : (s : Spec) (left less : ℕ) (stack : List Expected) → less ≤ left → AllCanCome s left stack → AllCanCome s less stack
can-come-later s left less [] h can = tt
can-come-later s left less (x ∷ stack) h can = (one x can.0, can-come-later s left less stack h can.1)
  where
    one : (x : Expected) → CanCome s left x → CanCome s less x
    one Close k = tt
    one (Part e) k = k
    one (Further c) k = let few = k.few in record { part_below = k.part_below; few = omega arith; range_some = k.range_some; below_high = k.below_high }
