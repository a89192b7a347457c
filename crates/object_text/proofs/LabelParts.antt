-- The labels that an object's parts take, one after the other.
use Rattle.std.proofs.Common.{◌≡◌, ℕ, zero, suc, ◌+◌, List, [], ◌∷◌, ◌++◌, take, drop, arith, refl, sym, ◌∙◌, ap, append-nil, append_assoc}
use Rattle.std.proofs.Math.Seq.{take-nil, drop-nil, take-add}
use Rattle.std.proofs.lemmas.List.{drop-take}
use Rattle.bz_model.specs.Spec.{Spec, node_at}
use Rattle.bz_model.specs.Object.{Object, Objects, none, more}
use Rattle.bz_model.specs.Measures.{size, sizes}
use Rattle.bz_model.specs.ObjectText.{Arrangement, least_label, lesser_label, least_of, text_by, texts_of_each, texts_of_all}
use Rattle.bz_laws.proofs.Items.{lesser-zero, lesser-assoc, least-append}
use Rattle.object_text.specs.Output.{Printed, grown}

-- Leaving out the first n + m items of a list is leaving out n of them and then m.
pub drop-drop : (n m : ℕ) (l : List ℕ) → drop (n + m) l ≡ drop m (drop n l)
drop-drop zero m l = let e : zero + m ≡ m = omega arith in ap (λ k. drop k l) e
drop-drop (suc n) m [] = drop-nil (suc n + m) ∙ sym (drop-nil m)
drop-drop (suc n) m (x ∷ l) = let e : suc n + m ≡ suc (n + m) = omega arith in ap (λ k. drop k (x ∷ l)) e ∙ drop-drop n m l

take-take : (n m : ℕ) (l : List ℕ) → take n (take (n + m) l) ≡ take n l
take-take zero m l = refl
take-take (suc n) m [] = ap (take (suc n)) (take-nil (suc n + m))
take-take (suc n) m (x ∷ l) = let e : suc n + m ≡ suc (n + m) = omega arith in ap (λ k. take (suc n) (take k (x ∷ l))) e ∙ ap (λ t. x ∷ t) (take-take n m l)

-- the least label that two parts hold
pub least-parts : (n m : ℕ) (l : List ℕ) → least_label (take (n + m) l) ≡ lesser_label (least_label (take n l)) (least_label (take m (drop n l)))
least-parts n m l = ap least_label (take-add n m l) ∙ least-append (take n l) (take m (drop n l))

module _ (a : Arrangement) (s : Spec) (T : ℕ → Object → List ℕ → List ℕ) where
  -- parts take no label but those of all
  pub each-enough : (parts : List ℕ) (os : Objects) (l : List ℕ) → texts_of_each a s T parts os (take (sizes os) l) ≡ texts_of_each a s T parts os l
  each-enough [] os l = refl
  each-enough (part ∷ parts) none l = refl
  each-enough (part ∷ parts) (more o os) l =
      ap (λ k. record { least = least_label k; text = text_by a s T (node_at s part) o k } ∷ texts_of_each a s T parts os (drop (size o) (take (size o + sizes os) l))) (take-take (size o) (sizes os) l)
      ∙ ap (λ ts. record { least = least_label (take (size o) l); text = text_by a s T (node_at s part) o (take (size o) l) } ∷ ts) (ap (texts_of_each a s T parts os) (drop-take (size o) (sizes os) l) ∙ each-enough parts os (drop (size o) l))

  pub all-enough : (part : ℕ) (os : Objects) (l : List ℕ) → texts_of_all a s T part os (take (sizes os) l) ≡ texts_of_all a s T part os l
  all-enough part none l = refl
  all-enough part (more o os) l =
      ap (λ k. record { least = least_label k; text = text_by a s T (node_at s part) o k } ∷ texts_of_all a s T part os (drop (size o) (take (size o + sizes os) l))) (take-take (size o) (sizes os) l)
      ∙ ap (λ ts. record { least = least_label (take (size o) l); text = text_by a s T (node_at s part) o (take (size o) l) } ∷ ts) (ap (texts_of_all a s T part os) (drop-take (size o) (sizes os) l) ∙ all-enough part os (drop (size o) l))

  -- the least label of all is the least of the parts' least labels
  pub least-all : (part : ℕ) (os : Objects) (l : List ℕ) → least_of (texts_of_all a s T part os l) ≡ least_label (take (sizes os) l)
  least-all part none l = refl
  least-all part (more o os) l = ap (lesser_label (least_label (take (size o) l))) (least-all part os (drop (size o) l)) ∙ sym (least-parts (size o) (sizes os) l)

-- text after text
pub grown-grown : (p : Printed) (a b : ℕ) (t u : List ℕ) → grown (grown p a t) b u ≡ grown p (lesser_label a b) (t ++ u)
grown-grown p a b t u =
    ap (λ n. record { least = n; text = (p.text ++ t) ++ u; frames = p.frames }) (lesser-assoc p.least a b)
    ∙ ap (λ x. record { least = lesser_label p.least (lesser_label a b); text = x; frames = p.frames }) (append_assoc p.text t u)

-- Printing no text and no label leaves what was printed as it is.
pub grown-none : (p : Printed) → p ≡ grown p 0 []
grown-none p = ap (λ n. record { least = n; text = p.text; frames = p.frames }) (sym (lesser-zero p.least)) ∙ ap (λ x. record { least = lesser_label p.least 0; text = x; frames = p.frames }) (sym (append-nil p.text))
