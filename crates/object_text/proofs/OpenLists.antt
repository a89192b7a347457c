-- Open lists as the code keeps them: what a patched token tells.
use Rattle.std.proofs.Common.{◌≡◌, ℕ, ◌+◌, ◌<◌, List, [], ◌∷◌, ◌++◌, length, take, drop, reverse, arith, refl, sym, ◌∙◌, ap, subst, Bool}
use Rattle.std.proofs.Math.ListN.{set}
use Rattle.std.proofs.lemmas.List.{take-append-drop, take-set, drop-set, take-append-le, drop-append-le, reverse-append}
use Rattle.object_store.specs.declared.token.Token.{Token}
use Rattle.object_text.specs.declared.parsed.OpenList as code
use Rattle.object_text.specs.Taken.{Taken, closed}
use Rattle.object_store.specs.declared.token.Token.TheVariants as token
use Rattle.object_text.specs.Slots.{inner_tokens, open_lists, AreSlots}

-- a list with one token set
pub set-parts : (ts : List Token) (i : ℕ) (t : Token) → i < length ts → set ts i t ≡ take i ts ++ t ∷ drop (i + 1) ts
set-parts ts i t h = sym (take-append-drop i (set ts i t)) ∙ ap (λ xs. xs ++ drop i (set ts i t)) (take-set ts i t) ∙ ap (λ xs. take i ts ++ xs) (drop-set ts i t h)

-- lists outside don't see what follows their tokens
inner-more : (lists : List code.OpenList) (ts more : List Token) → AreSlots lists ts → inner_tokens lists (ts ++ more) ≡ inner_tokens lists ts ++ more
inner-more [] ts more h = refl
inner-more (l ∷ lists) ts more h = let below = h.0 in drop-append-le (l.slot + 1) ts more (omega arith)

lists-more : (lists : List code.OpenList) (ts more : List Token) → AreSlots lists ts → open_lists lists (ts ++ more) ≡ open_lists lists ts
lists-more [] ts more h = refl
lists-more (l ∷ lists) ts more h =
    let below = h.0 in
    let front : take l.slot (ts ++ more) ≡ take l.slot ts = take-append-le l.slot ts more (omega arith) in
    ap (λ us. record { kind = l.kind; tokens = inner_tokens lists us; least = l.least; mark = l.mark } ∷ open_lists lists us) front

slots-more : (lists : List code.OpenList) (ts more : List Token) → AreSlots lists ts → AreSlots lists (ts ++ more)
slots-more [] ts more h = tt
slots-more (l ∷ lists) ts more h =
    let below = h.0 in
    let front : take l.slot (ts ++ more) ≡ take l.slot ts = take-append-le l.slot ts more (omega arith) in
    (longer ts more l.slot below, subst (AreSlots lists) (sym front) h.1)
  where
    longer : (ts more : List Token) (n : ℕ) → n < length ts → n < length (ts ++ more)
    longer [] more n h = absurd (omega arith)
    longer (t ∷ ts) more n h = let k = long ts more in omega arith
      where
        long : (ts more : List Token) → length ts < length (ts ++ more) + 1
        long [] more = omega arith
        long (t ∷ ts) more = let k = long ts more in omega arith

-- what is seen of tokens, labels and open lists
abbrev pub seen : List code.OpenList → List Token → List ℕ → ℕ → Bool → Taken
seen lists ts labels least ordered = record { tokens = inner_tokens lists ts; labels = labels; least = least; ordered = ordered; lists = open_lists lists ts }

-- the innermost list ends
pub seen-closed : (items lists : List code.OpenList) (l : code.OpenList) (ts : List Token) (labels : List ℕ) (least n : ℕ) (ordered : Bool) (before : Taken) → items ≡ lists ++ l ∷ [] → AreSlots (reverse items) ts → seen (reverse items) ts labels least ordered ≡ before → seen (reverse lists) (set ts l.slot (token.Count n)) labels l.least ordered ≡ closed n before
seen-closed items lists l ts labels least n ordered before e slots h =
    let back : reverse items ≡ l ∷ reverse lists = ap reverse e ∙ reverse-append lists (l ∷ []) in
    let s : AreSlots (l ∷ reverse lists) ts = subst (λ ls. AreSlots ls ts) back slots in
    let was : seen (l ∷ reverse lists) ts labels least ordered ≡ before = sym (ap (λ ls. seen ls ts labels least ordered) back) ∙ h in
    ap (λ us. seen (reverse lists) us labels l.least ordered) (set-parts ts l.slot (token.Count n) s.0)
    ∙ ap (λ us. record { tokens = us; labels = labels; least = l.least; ordered = ordered; lists = open_lists (reverse lists) (take l.slot ts ++ token.Count n ∷ drop (l.slot + 1) ts) }) (inner-more (reverse lists) (take l.slot ts) (token.Count n ∷ drop (l.slot + 1) ts) s.1)
    ∙ ap (λ us. record { tokens = inner_tokens (reverse lists) (take l.slot ts) ++ token.Count n ∷ drop (l.slot + 1) ts; labels = labels; least = l.least; ordered = ordered; lists = us }) (lists-more (reverse lists) (take l.slot ts) (token.Count n ∷ drop (l.slot + 1) ts) s.1)
    ∙ ap (closed n) was

pub slots-closed : (items lists : List code.OpenList) (l : code.OpenList) (ts : List Token) (n : ℕ) → items ≡ lists ++ l ∷ [] → AreSlots (reverse items) ts → AreSlots (reverse lists) (set ts l.slot (token.Count n))
slots-closed items lists l ts n e slots =
    let back : reverse items ≡ l ∷ reverse lists = ap reverse e ∙ reverse-append lists (l ∷ []) in
    let s : AreSlots (l ∷ reverse lists) ts = subst (λ ls. AreSlots ls ts) back slots in
    subst (AreSlots (reverse lists)) (sym (set-parts ts l.slot (token.Count n) s.0)) (slots-more (reverse lists) (take l.slot ts) (token.Count n ∷ drop (l.slot + 1) ts) s.1)

-- where no list is open, all tokens are seen
pub all-inner : (lists : List code.OpenList) (ts : List Token) → open_lists lists ts ≡ [] → inner_tokens lists ts ≡ ts
all-inner [] ts e = refl
all-inner (l ∷ lists) ts e = absurd (cc)
