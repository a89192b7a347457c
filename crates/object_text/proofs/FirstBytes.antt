-- The text of an object begins with a byte that is no space and ends no list.
use Rattle.std.proofs.Common.{◌≡◌, ◌≢◌, ℕ, zero, suc, ◌<◌, ◌≤◌, ◌⊎◌, inl, inr, List, [], ◌∷◌, ◌++◌, arith, refl, sym, ◌∙◌, ap, Option, Some, None, Bool, true, false, ◌&&◌, ◌||◌, append_assoc, decimal}
use Rattle.std.specs.Prelude.{slice_get, nat_eq}
use Rattle.std.specs.List.{AllByRecursion}
use Rattle.std.specs.Char.{is_ascii_alphanumeric}
use Rattle.std.specs.Int.{is_in_range}
use Rattle.std.proofs.lemmas.List.Elements.{recursion_from_All}
use Rattle.std.proofs.lemmas.Option.{slice_get_within}
use Rattle.std.proofs.lemmas.Bool.Decides.{leb_tells, eqb_tells}
use Rattle.bz_model.specs.Spec.{Spec, Node, Range, node_at, range_at, node_of, range_of, body_of}
use Rattle.bz_model.specs.Object.{Object, Has, ClassHas}
use Rattle.bz_model.specs.Object.Object.{Unit_, Dot, Pick, Tuple, SeqOf, SetOf, CycOf}
use Rattle.bz_model.specs.ObjectText.{IsObjectText, leaf_text, label_text, text_by, class_text}
use Rattle.bz_laws.specs.Spelled.{IsWordByte, IsPlainNode, IsPlain}
use Rattle.class_system.specs.Sound.{IsSound}
use Rattle.class_system.specs.Limits.{IsWithinLimits}
use Rattle.class_system.specs.Words.{is_run_byte, IsLeafWord}
use Rattle.object_text.proofs.Digits.{has-digit}
use Rattle.object_text.proofs.ObjectTexts.{standing}

or-cases : (a b : Bool) → (a || b) ≡ true → (a ≡ true) ⊎ (b ≡ true)
or-cases true b h = inl refl
or-cases false b h = inr h

and-cases : (a b : Bool) → (a && b) ≡ true → (a ≡ true) × (b ≡ true)
and-cases true b h = (refl, h)
and-cases false b h = absurd (cc)

at-most : (a b : ℕ) (t : Bool) → ((t ≡ true) × (a ≤ b)) ⊎ ((t ≡ false) × (b < a)) → t ≡ true → a ≤ b
at-most a b t (inl h) e = h.1
at-most a b t (inr h) e = absurd (let f = h.0 in cc)

in-range : (low high b : ℕ) → is_in_range low high b ≡ true → (low ≤ b) × (b ≤ high)
in-range low high b e = let h = and-cases _ _ e in (at-most low b _ (leb_tells low b) h.0, at-most b high _ (leb_tells b high) h.1)

same-byte : (a b : ℕ) (t : Bool) → ((t ≡ true) × (a ≡ b)) ⊎ ((t ≡ false) × (a ≢ b)) → t ≡ true → a ≡ b
same-byte a b t (inl h) e = h.1
same-byte a b t (inr h) e = absurd (let f = h.0 in cc)

word-byte : (b : ℕ) → is_run_byte b ≡ true → IsWordByte b
word-byte b e = elim (or-cases (is_ascii_alphanumeric b) (nat_eq b 95) e) [
  | inl h ↦ elim (or-cases (is_in_range 48 57 b || is_in_range 65 90 b) (is_in_range 97 122 b) h) [
    | inl k ↦ elim (or-cases (is_in_range 48 57 b) (is_in_range 65 90 b) k) [ inl d ↦ inl (in-range 48 57 b d) | inr d ↦ inr (inl (in-range 65 90 b d)) ]
    | inr d ↦ inr (inr (inr (in-range 97 122 b d)))
  ]
  | inr h ↦ inr (inr (inl (same-byte b 95 _ (eqb_tells b 95) h)))
]

word-bytes : (word : List ℕ) → AllByRecursion (λ b. is_run_byte b ≡ true) word → AllByRecursion IsWordByte word
word-bytes [] h = tt
word-bytes (b ∷ word) h = (word-byte b h.0, word-bytes word h.1)

leaf-word : (word : List ℕ) → IsLeafWord word → AllByRecursion IsWordByte word
leaf-word word h = word-bytes word (recursion_from_All (λ b. is_run_byte b ≡ true) word h.run)

module _ (s : Spec) (sound : IsSound s) (limits : IsWithinLimits s) where
  plain-node : (e : ℕ) (n : Node) → node_at s e ≡ Some n → IsPlainNode n
  plain-node e (Node.Empty word) at = leaf-word word (sound.leaves.at e (Node.Empty word) at)
  plain-node e (Node.Atom word) at = leaf-word word (sound.leaves.at e (Node.Atom word) at)
  plain-node e (Node.Class c) at = tt
  plain-node e (Node.Union parts) at = let few = (limits.parts.at e (Node.Union parts) at).few in omega arith
  plain-node e (Node.Product parts) at = tt
  plain-node e (Node.Seq part) at = tt
  plain-node e (Node.Set part) at = tt
  plain-node e (Node.Cyc part) at = tt

  -- the words of leaves and the numbers of parts are those that texts can be read with
  pub is-plain : IsPlain s
  is-plain = record { node = plain-node }

-- A byte that is no space and ends no list.
pub record IsStart (b : ℕ) : Type 0 where
  pub no_space : b ≢ 32
  pub no_sequence_end : b ≢ 93
  pub no_set_end : b ≢ 125
  pub no_cycle_end : b ≢ 62

pub record Starts (text : List ℕ) : Type 0 where
  pub byte : ℕ
  pub back : List ℕ
  pub is : text ≡ byte ∷ back
  pub start : IsStart byte

start-word : (b : ℕ) → IsWordByte b → IsStart b
start-word b (inl d) = let low = d.0 in let high = d.1 in record { no_space = omega arith; no_sequence_end = omega arith; no_set_end = omega arith; no_cycle_end = omega arith }
start-word b (inr (inl d)) = let low = d.0 in let high = d.1 in record { no_space = omega arith; no_sequence_end = omega arith; no_set_end = omega arith; no_cycle_end = omega arith }
start-word b (inr (inr (inl e))) = record { no_space = omega arith; no_sequence_end = omega arith; no_set_end = omega arith; no_cycle_end = omega arith }
start-word b (inr (inr (inr d))) = let low = d.0 in let high = d.1 in record { no_space = omega arith; no_sequence_end = omega arith; no_set_end = omega arith; no_cycle_end = omega arith }

starts-leaf : (letter : ℕ) (word more : List ℕ) → IsStart letter → AllByRecursion IsWordByte word → Starts (leaf_text (letter ∷ []) word ++ more)
starts-leaf letter [] more o w = record { byte = letter; back = more; is = refl; start = o }
starts-leaf letter (b ∷ word) more o w = record { byte = b; back = word ++ more; is = refl; start = start-word b w.0 }

starts-same : (t u : List ℕ) → t ≡ u → Starts u → Starts t
starts-same t u e h = record { byte = h.byte; back = h.back; is = e ∙ h.is; start = h.start }

starts-option : (i n : ℕ) (more : List ℕ) → i ≤ n → n ≤ 1000000 → Starts (decimal i ++ more)
starts-option i n more h small =
    let d = has-digit 0 n i (omega arith) (omega arith) h small more in
    let low = d.digit.from_0 in
    let high = d.digit.to_9 in
    record { byte = d.byte; back = d.back; is = d.is; start = record { no_space = omega arith; no_sequence_end = omega arith; no_set_end = omega arith; no_cycle_end = omega arith } }

-- a bracket before what follows
starts-bracket : (b : ℕ) (more : List ℕ) → (b ≡ 40) ⊎ ((b ≡ 91) ⊎ ((b ≡ 123) ⊎ (b ≡ 60))) → Starts (b ∷ more)
starts-bracket b more (inl e) = record { byte = b; back = more; is = refl; start = record { no_space = omega arith; no_sequence_end = omega arith; no_set_end = omega arith; no_cycle_end = omega arith } }
starts-bracket b more (inr (inl e)) = record { byte = b; back = more; is = refl; start = record { no_space = omega arith; no_sequence_end = omega arith; no_set_end = omega arith; no_cycle_end = omega arith } }
starts-bracket b more (inr (inr (inl e))) = record { byte = b; back = more; is = refl; start = record { no_space = omega arith; no_sequence_end = omega arith; no_set_end = omega arith; no_cycle_end = omega arith } }
starts-bracket b more (inr (inr (inr e))) = record { byte = b; back = more; is = refl; start = record { no_space = omega arith; no_sequence_end = omega arith; no_set_end = omega arith; no_cycle_end = omega arith } }

module _ (s : Spec) (sound : IsSound s) (limits : IsWithinLimits s) where
  starts-node : (h e : ℕ) (n : Option Node) → node_at s e ≡ n → ((c : ℕ) (o : Object) (l : List ℕ) → ClassHas s h c o → Starts (class_text standing s h c o l)) → (r : Option Range) (o : Object) (l : List ℕ) → Has s (ClassHas s h) n r o → Starts (text_by standing s (class_text standing s h) n o l)
  starts-node h e (Some (Node.Empty word)) at class r Unit_ l w = starts-same _ (leaf_text (69 ∷ []) word ++ []) (sym (nothing-more (leaf_text (69 ∷ []) word))) (starts-leaf 69 word [] (record { no_space = omega arith; no_sequence_end = omega arith; no_set_end = omega arith; no_cycle_end = omega arith }) ((is-plain s sound limits).node e (Node.Empty word) at))
    where
      nothing-more : (t : List ℕ) → t ++ [] ≡ t
      nothing-more [] = refl
      nothing-more (b ∷ t) = ap (λ u. b ∷ u) (nothing-more t)
  starts-node h e (Some (Node.Atom word)) at class r Dot l w = starts-leaf 90 word (label_text s.mode l) (record { no_space = omega arith; no_sequence_end = omega arith; no_set_end = omega arith; no_cycle_end = omega arith }) ((is-plain s sound limits).node e (Node.Atom word) at)
  starts-node h e (Some (Node.Class c)) at class r o l w = class c o l w
  starts-node h e (Some (Node.Union parts)) at class r (Pick i o) l w =
      let few = (limits.parts.at e (Node.Union parts) at).few in
      let own : List ℕ = text_by standing s (class_text standing s h) (node_of s (slice_get parts i)) o l in
      starts-same _ (decimal i ++ 46 ∷ own) (append_assoc (decimal i) (46 ∷ []) own) (starts-option i 64 (46 ∷ own) (below (slice_get parts i) refl w) (omega arith))
    where
      below : (p : Option ℕ) → slice_get parts i ≡ p → Has s (ClassHas s h) (node_of s p) (range_of s p) o → i ≤ 64
      below (Some p) at' w = let within = slice_get_within parts i p at' in let few = (limits.parts.at e (Node.Union parts) at).few in omega arith
      below None at' w = elim w [ ]
  starts-node h e (Some (Node.Product parts)) at class r (Tuple os) l w = starts-bracket 40 _ (inl refl)
  starts-node h e (Some (Node.Seq part)) at class r (SeqOf os) l w = starts-bracket 91 _ (inr (inl refl))
  starts-node h e (Some (Node.Set part)) at class r (SetOf os) l w = starts-bracket 123 _ (inr (inr (inl refl)))
  starts-node h e (Some (Node.Cyc part)) at class r (CycOf os) l w = starts-bracket 60 _ (inr (inr (inr refl)))
  starts-node h e _ at class r _ l w = elim w [ ]

  starts-body : (h : ℕ) (b : Option ℕ) → ((c : ℕ) (o : Object) (l : List ℕ) → ClassHas s h c o → Starts (class_text standing s h c o l)) → (o : Object) (l : List ℕ) → Has s (ClassHas s h) (node_of s b) (range_of s b) o → Starts (text_by standing s (class_text standing s h) (node_of s b) o l)
  starts-body h (Some e) class o l w = starts-node h e (node_at s e) refl class (range_at s e) o l w
  starts-body h None class o l w = elim w [ ]

  starts-class : (h c : ℕ) (o : Object) (l : List ℕ) → ClassHas s h c o → Starts (class_text standing s h c o l)
  starts-class zero c o l w = elim w [ ]
  starts-class (suc h) c o l w = starts-body h (body_of s c) (starts-class h) o l w

  pub starts : (e : ℕ) (text : List ℕ) (o : Object) (l : List ℕ) → IsObjectText s e text o l → Starts text
  starts e text o l h = starts-same text _ h.spelled (starts-node h.belongs.0 e (node_at s e) refl (starts-class h.belongs.0) (range_at s e) o l h.belongs.1)
