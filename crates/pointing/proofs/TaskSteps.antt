-- The tasks that lay out forms: what each is replaced by makes the same forms.
use Rattle.std.proofs.Common.{◌≡◌, ℕ, zero, suc, ◌+◌, ◌-◌, ◌<◌, List, [], ◌∷◌, ◌++◌, take, drop, map, length, arith, refl, sym, ◌∙◌, ap, subst, append_assoc, append-nil, length-append, Bool, true, false, Option, Some, None, slice_get, get_or, add-one, drop-cons, length-drop, inl, inr}
use Rattle.std.specs.Prelude.{option_to_list, if◌then◌else◌, ◌⊎◌}
use Rattle.std.specs.List.{AllByRecursion}
use Rattle.std.proofs.lemmas.List.{length-map, map-append, take_all, take_more}
use Rattle.std.proofs.lemmas.Option.{same_Some, slice_get-get_or}
use Rattle.bz_model.specs.Spec.{Spec, Mode, Node, Range, node_at, plain_range}
use Rattle.class_system.specs.Sound.{IsSound}
use Rattle.class_system.specs.Views.{number, spec_node}
use Rattle.class_system.specs.NodeOrder.{parts_of}
use Rattle.class_system.specs.declared.expr.Expr.{Expr}
use Rattle.class_system.specs.declared.expr.Expr.TheVariants as expr
use Rattle.class_system.specs.declared.ids.ExprId.{ExprId}
use Rattle.class_system.proofs.Soundness.{part_in_range, body_in_range}
use Rattle.well_founded.specs.EmptyObjects.{answer_at}
use Rattle.pointing.specs.Forms.{Form, Forms, also, parts_from, forms_joined, all_forms, form_at, found, body_forms, node_form}
use Rattle.pointing.specs.Atoms.{is_atomic}
use Rattle.pointing.specs.PointedForm.{how_many, pointed, pointed_parts, one_pointed, one_of, copied, copied_each, around}
use Rattle.pointing.specs.LaidOut.{laid, plain}
use Rattle.pointing.specs.Building.{Layout, IsLayout, put_together, union_of_last, after_task, after_tasks, IsInside, alternative, alternatives, IsTaskDone}
use Rattle.pointing.specs.declared.tasks.Task.{Task}
use Rattle.pointing.specs.declared.tasks.Task.TheVariants as task
use Rattle.pointing.proofs.Layouts.{take-front, drop-front}
use Rattle.pointing.proofs.Reading.{form-step}
use Rattle.pointing.proofs.PointedParts.{there, atomic-there, tells, parts-count, products-count}
use Rattle.pointing.proofs.AtomMarks.{mark-found}

-- The last forms are put together.
pub together : (join : List Form → List Form) (n : ℕ) (fs gs : List Form) → n ≡ length gs → put_together join n (fs ++ gs) ≡ fs ++ join gs
together join n fs gs e =
    ap (λ z. z ++ join (drop (length (fs ++ gs) - n) (fs ++ gs))) (take-front (length (fs ++ gs) - n) fs gs from) ∙ ap (λ z. fs ++ join z) (drop-front (length (fs ++ gs) - n) fs gs from)
  where
    from : length (fs ++ gs) - n ≡ length fs
    from = let a = length-append fs gs in omega arith

pub choice-together : (n : ℕ) (fs gs : List Form) → n ≡ length gs → union_of_last n (fs ++ gs) ≡ fs ++ option_to_list (one_of gs)
choice-together zero fs [] e = refl
choice-together zero fs (g ∷ gs) e = absurd (omega arith)
choice-together (suc zero) fs [] e = absurd (omega arith)
choice-together (suc zero) fs (g ∷ []) e = refl
choice-together (suc zero) fs (g ∷ h ∷ gs) e = absurd (omega arith)
choice-together (suc (suc n)) fs [] e = absurd (omega arith)
choice-together (suc (suc n)) fs (g ∷ []) e = absurd (omega arith)
choice-together (suc (suc n)) fs (g ∷ h ∷ gs) e = together (λ ks. Form.Union (parts_from ks) ∷ []) (suc (suc n)) fs (g ∷ h ∷ gs) e

-- The parts from one list of forms joined with those from another are the parts from both lists,
-- one after the other.
pub joined-parts : (xs ys : List Form) → forms_joined (parts_from xs) (parts_from ys) ≡ parts_from (xs ++ ys)
joined-parts [] ys = refl
joined-parts (x ∷ xs) ys = ap (also x) (joined-parts xs ys)

joined-one : (xs : List Form) (g : Form) (t : Forms) → forms_joined (parts_from xs) (also g t) ≡ forms_joined (parts_from (xs ++ g ∷ [])) t
joined-one [] g t = refl
joined-one (x ∷ xs) g t = ap (also x) (joined-one xs g t)

map-each : {A B : Type 0} (f g : A → B) → ((a : A) → f a ≡ g a) → (xs : List A) → map f xs ≡ map g xs
map-each f g h [] = refl
map-each f g h (x ∷ xs) = ap (λ z. z ∷ map f xs) (h x) ∙ ap (λ zs. g x ∷ zs) (map-each f g h xs)

map-both : {A B C : Type 0} (f : B → C) (g : A → B) (xs : List A) → map f (map g xs) ≡ map (λ a. f (g a)) xs
map-both f g [] = refl
map-both f g (x ∷ xs) = ap (λ zs. f (g x) ∷ zs) (map-both f g xs)

-- The copies of the parts made from a list of forms are the parts made from the list of copies.
pub copied-list : (cls : List Bool) (gs : List Form) → copied_each cls (parts_from gs) ≡ parts_from (map (copied cls) gs)
copied-list cls [] = refl
copied-list cls (g ∷ gs) = ap (also (copied cls g)) (copied-list cls gs)

all-both : {A : Type 0} (P : A → Type 0) (xs ys : List A) → AllByRecursion P xs → AllByRecursion P ys → AllByRecursion P (xs ++ ys)
all-both P [] ys h k = k
all-both P (x ∷ xs) ys h k = (h.0, all-both P xs ys h.1 k)

-- The nodes are among the first n.
abbrev pub AreInside : ℕ → List ExprId → Type 0
AreInside n ps = AllByRecursion (λ p. p.0 < n) ps

pub are-inside : (n : ℕ) (ps : List ExprId) → ((i part : ℕ) → slice_get (map number ps) i ≡ Some part → part < n) → AreInside n ps
are-inside n [] h = tt
are-inside n (p ∷ ps) h = (h 0 p.0 refl, are-inside n ps (λ i q at. h (suc i) q at))

-- Tasks that copy nodes among the first n name only nodes among the first n.
pub copies-inside : (n : ℕ) (ps : List ExprId) → AreInside n ps → AllByRecursion (IsInside n) (map task.Copy ps)
copies-inside n [] h = tt
copies-inside n (p ∷ ps) h = (h.0, copies-inside n ps h.1)

-- Tasks that point nodes among the first n name only nodes among the first n.
pub points-inside : (n : ℕ) (ps : List ExprId) → AreInside n ps → AllByRecursion (IsInside n) (map task.Point ps)
points-inside n [] h = tt
points-inside n (p ∷ ps) h = (h.0, points-inside n ps h.1)

-- Where some tasks name only nodes among the first n and one more does, so do all of them together.
pub then-one : (n : ℕ) (ts : List Task) (t : Task) → AllByRecursion (IsInside n) ts → IsInside n t → AllByRecursion (IsInside n) (ts ++ t ∷ [])
then-one n ts t h k = all-both (IsInside n) ts (t ∷ []) h (k, tt)

-- Where the parts before and the parts themselves are among the first n nodes, so are the nodes
-- named by the tasks of all alternatives.
pub alternatives-inside : (n m : ℕ) (nodes : List Bool) (before ps : List ExprId) → AreInside n before → AreInside n ps → AllByRecursion (IsInside n) (alternatives m nodes before ps)
alternatives-inside n m nodes before [] h k = tt
alternatives-inside n m nodes before (p ∷ ps) h k =
    all-both (IsInside n) (if answer_at nodes p.0 then alternative m before p ps else []) (alternatives m nodes (before ++ p ∷ []) ps) (one (answer_at nodes p.0)) (alternatives-inside n m nodes (before ++ p ∷ []) ps (all-both (λ q. q.0 < n) before (p ∷ []) h (k.0, tt)) k.1)
  where
    one : (b : Bool) → AllByRecursion (IsInside n) (if b then alternative m before p ps else [])
    one true = then-one n (map task.Copy before ++ task.Point p ∷ map task.Copy ps) (task.Product m) (all-both (IsInside n) (map task.Copy before) (task.Point p ∷ map task.Copy ps) (copies-inside n before h) (k.0, copies-inside n ps k.1)) tt
    one false = tt

-- No set and no cycle stands in an unlabelled specification.
pub no-label : (s : Spec) → IsSound s → s.mode ≡ Mode.Unlabelled → (e : ℕ) (x : Expr) → node_at s e ≡ Some (spec_node x) → ((p : ExprId) × (x ≡ expr.Set p)) ⊎ ((p : ExprId) × (x ≡ expr.Cyc p)) → ⊥
no-label s sound mode e x at is = elim is [
  | inl h ↦ labelled (sound.modes.at e (Node.Set (h.0).0) (at ∙ ap (λ y. Some (spec_node y)) h.1))
  | inr h ↦ labelled (sound.modes.at e (Node.Cyc (h.0).0) (at ∙ ap (λ y. Some (spec_node y)) h.1))
]
  where
    labelled : s.mode ≡ Mode.Labelled → ⊥
    labelled l = absurd (cc)

-- The parts of a node are among the nodes.
pub node-parts-inside : (s : Spec) → IsSound s → (e : ℕ) (n : Node) (ps : List ExprId) → node_at s e ≡ Some n → parts_of n ≡ map number ps → AreInside (length s.nodes) ps
node-parts-inside s sound e n ps at are = are-inside (length s.nodes) ps (λ i part is. part_in_range s sound e part n at (record { place = i; is_there = ap (λ z. slice_get z i) are ∙ is }))

-- An alternative, pushed in four steps.
pub pushed-alternative : (parts : List ExprId) (i : ℕ) (d part : ExprId) (old first second third now : List Task) → i < length parts → slice_get parts i ≡ Some part
    → first ≡ old ++ map task.Copy (take i parts) → second ≡ first ++ task.Point (get_or parts i d) ∷ [] → third ≡ second ++ map task.Copy (take (length parts - (i + 1)) (drop (i + 1) parts)) → now ≡ third ++ task.Product (length parts) ∷ []
    → now ≡ old ++ alternative (length parts) (take i parts) part (drop (i + 1) parts)
pushed-alternative parts i d part old first second third now lt at e f g h =
    h ∙ ap (λ z. z ++ task.Product (length parts) ∷ []) (g ∙ ap (λ z. second ++ map task.Copy z) (take_all (length parts - (i + 1)) (drop (i + 1) parts) (let k = length-drop (i + 1) parts in omega arith)) ∙ ap (λ z. z ++ map task.Copy (drop (i + 1) parts)) (f ∙ ap (λ z. z ++ task.Point (get_or parts i d) ∷ []) e))
    ∙ regroup old (map task.Copy (take i parts)) (task.Point (get_or parts i d) ∷ []) (map task.Copy (drop (i + 1) parts)) (task.Product (length parts) ∷ [])
    ∙ ap (λ q. old ++ alternative (length parts) (take i parts) q (drop (i + 1) parts)) (same_Some (get_or parts i d) part (sym (slice_get-get_or parts i d lt) ∙ at))
  where
    regroup : (a b x y z : List Task) → (((a ++ b) ++ x) ++ y) ++ z ≡ a ++ ((b ++ (x ++ y)) ++ z)
    regroup a b x y z = simp append_assoc

-- The alternatives from a place on are that of the part there and the later ones.
pub alternatives-step : (n : ℕ) (nodes : List Bool) (parts : List ExprId) (i : ℕ) (d : ExprId) → i < length parts
    → alternatives n nodes (take i parts) (drop i parts) ≡ (if answer_at nodes (get_or parts i d).0 then alternative n (take i parts) (get_or parts i d) (drop (i + 1) parts) else []) ++ alternatives n nodes (take (i + 1) parts) (drop (i + 1) parts)
alternatives-step n nodes parts i d lt =
    ap (alternatives n nodes (take i parts)) (drop-cons parts i d lt ∙ ap (λ k. get_or parts i d ∷ drop k parts) (sym (add-one i)))
    ∙ ap (λ z. (if answer_at nodes (get_or parts i d).0 then alternative n (take i parts) (get_or parts i d) (drop (i + 1) parts) else []) ++ alternatives n nodes z (drop (i + 1) parts)) (sym (take_more parts i d lt))

-- Where the alternative at part i is added if that part is marked, the tasks so far and the
-- alternatives from part i + 1 on are all of them.
pub alternatives-on : (n : ℕ) (nodes : List Bool) (parts : List ExprId) (i : ℕ) (d : ExprId) (old now all : List Task) (mark : Bool) → i < length parts → old ++ alternatives n nodes (take i parts) (drop i parts) ≡ all → mark ≡ answer_at nodes (get_or parts i d).0
    → now ≡ old ++ (if mark then alternative n (take i parts) (get_or parts i d) (drop (i + 1) parts) else []) → now ++ alternatives n nodes (take (i + 1) parts) (drop (i + 1) parts) ≡ all
alternatives-on n nodes parts i d old now all mark lt e m put =
    ap (λ z. z ++ alternatives n nodes (take (i + 1) parts) (drop (i + 1) parts)) (put ∙ ap (λ b. old ++ (if b then alternative n (take i parts) (get_or parts i d) (drop (i + 1) parts) else [])) m)
    ∙ append_assoc old (if answer_at nodes (get_or parts i d).0 then alternative n (take i parts) (get_or parts i d) (drop (i + 1) parts) else []) (alternatives n nodes (take (i + 1) parts) (drop (i + 1) parts))
    ∙ ap (λ z. old ++ z) (sym (alternatives-step n nodes parts i d lt)) ∙ e

-- What an absent pointed form and one that is there are told by.
pub not-there : (x : Option Form) → false ≡ there x → x ≡ None
not-there None e = refl
not-there (Some g) e = absurd (cc)

-- Where the mark of an optional form is true, it is some form g.
pub is-there : (x : Option Form) → true ≡ there x → (g : Form) × (x ≡ Some g)
is-there None e = absurd (cc)
is-there (Some g) e = (g, refl)

module _ (s : Spec) (cls : List Bool) where
  pub after-append : (ts us : List Task) (fs : List Form) → after_tasks s cls (ts ++ us) fs ≡ after_tasks s cls us (after_tasks s cls ts fs)
  after-append [] us fs = refl
  after-append (t ∷ ts) us fs = after-append ts us (after_task s cls t fs)

  -- the forms of some nodes
  abbrev pub forms : List ExprId → List Form
  forms ps = map (found (all_forms s)) (map number ps)

  pub after-copies : (ps : List ExprId) (fs : List Form) → after_tasks s cls (map task.Copy ps) fs ≡ fs ++ map (copied cls) (forms ps)
  after-copies [] fs = sym (append-nil fs)
  after-copies (p ∷ ps) fs = after-copies ps (fs ++ copied cls (form_at s p.0) ∷ []) ∙ append_assoc fs (copied cls (form_at s p.0) ∷ []) (map (copied cls) (forms ps))

  pub after-points : (ps : List ExprId) (fs : List Form) → after_tasks s cls (map task.Point ps) fs ≡ fs ++ pointed_parts cls (parts_from (forms ps))
  after-points [] fs = sym (append-nil fs)
  after-points (p ∷ ps) fs = after-points ps (fs ++ option_to_list (pointed cls (form_at s p.0))) ∙ append_assoc fs (option_to_list (pointed cls (form_at s p.0))) (pointed_parts cls (parts_from (forms ps)))

  copies-count : (ps : List ExprId) → length ps ≡ length (map (copied cls) (forms ps))
  copies-count [] = refl
  copies-count (p ∷ ps) = ap suc (copies-count ps)

  -- one alternative
  after-alternative : (n : ℕ) (before later : List ExprId) (p : ExprId) (q : Form) (fs : List Form) → n ≡ length before + suc (length later) → pointed cls (form_at s p.0) ≡ Some q
      → after_tasks s cls (alternative n before p later) fs ≡ fs ++ Form.Product (forms_joined (parts_from (map (copied cls) (forms before))) (also q (copied_each cls (parts_from (forms later))))) ∷ []
  after-alternative n before later p q fs e h =
      after-append (map task.Copy before ++ task.Point p ∷ map task.Copy later) (task.Product n ∷ []) fs
      ∙ ap (put_together (λ gs. Form.Product (parts_from gs) ∷ []) n) parts
      ∙ together (λ gs. Form.Product (parts_from gs) ∷ []) n fs (B ++ q ∷ C) long
      ∙ ap (λ z. fs ++ Form.Product z ∷ []) (sym (joined-parts B (q ∷ C)) ∙ ap (λ z. forms_joined (parts_from B) (also q z)) (sym (copied-list cls (forms later))))
    where
      B : List Form
      B = map (copied cls) (forms before)

      C : List Form
      C = map (copied cls) (forms later)

      long : n ≡ length (B ++ q ∷ C)
      long = let a = length-append B (q ∷ C) in let b = copies-count before in let d = copies-count later in omega arith

      parts : after_tasks s cls (map task.Copy before ++ task.Point p ∷ map task.Copy later) fs ≡ fs ++ (B ++ q ∷ C)
      parts = after-append (map task.Copy before) (task.Point p ∷ map task.Copy later) fs
          ∙ ap (λ z. after_tasks s cls (task.Point p ∷ map task.Copy later) z) (after-copies before fs)
          ∙ after-copies later ((fs ++ B) ++ option_to_list (pointed cls (form_at s p.0)))
          ∙ ap (λ z. ((fs ++ B) ++ option_to_list z) ++ C) h
          ∙ append_assoc (fs ++ B) (q ∷ []) C ∙ append_assoc fs B (q ∷ C)

  module _ (nodes : List Bool) (marked : nodes ≡ map (is_atomic cls) (all_forms s)) where
    -- a mark tells whether there is a pointed form
    pub mark-tells : (p : ℕ) → answer_at nodes p ≡ there (pointed cls (form_at s p))
    mark-tells p = ap (λ ms. answer_at ms p) marked ∙ mark-found cls (all_forms s) p ∙ atomic-there cls (form_at s p)

    marks-tell : (ps : List ℕ) → map (answer_at nodes) ps ≡ tells cls (parts_from (map (found (all_forms s)) ps))
    marks-tell [] = refl
    marks-tell (p ∷ ps) = ap (λ z. z ∷ map (answer_at nodes) ps) (ap (λ ms. answer_at ms p) marked ∙ mark-found cls (all_forms s) p) ∙ ap (λ zs. is_atomic cls (found (all_forms s) p) ∷ zs) (marks-tell ps)

    -- all alternatives
    pub after-alternatives : (n : ℕ) (before ps : List ExprId) (fs : List Form) → n ≡ length before + length ps
        → after_tasks s cls (alternatives n nodes before ps) fs ≡ fs ++ map (λ t. Form.Product (forms_joined (parts_from (map (copied cls) (forms before))) t)) (one_pointed cls (parts_from (forms ps)))
    after-alternatives n before [] fs e = sym (append-nil fs)
    after-alternatives n before (p ∷ ps) fs e = go (λ gs. after-alternatives n (before ++ p ∷ []) ps gs (let a = length-append before (p ∷ []) in omega arith)) (pointed cls (form_at s p.0)) refl
      where
        P : Forms → Form
        P t = Form.Product (forms_joined (parts_from (map (copied cls) (forms before))) t)

        f : Form
        f = form_at s p.0

        Q : Forms → Form
        Q t = Form.Product (forms_joined (parts_from (map (copied cls) (forms (before ++ p ∷ [])))) t)

        snoc : map (copied cls) (forms (before ++ p ∷ [])) ≡ map (copied cls) (forms before) ++ copied cls f ∷ []
        snoc = ap (λ z. map (copied cls) (map (found (all_forms s)) z)) (map-append number before (p ∷ [])) ∙ ap (map (copied cls)) (map-append (found (all_forms s)) (map number before) (p.0 ∷ [])) ∙ map-append (copied cls) (forms before) (f ∷ [])

        shifted : map Q (one_pointed cls (parts_from (forms ps))) ≡ map P (map (also (copied cls f)) (one_pointed cls (parts_from (forms ps))))
        shifted = map-each Q (λ t. P (also (copied cls f) t)) (λ t. ap (λ z. Form.Product (forms_joined (parts_from z) t)) snoc ∙ ap Form.Product (sym (joined-one (map (copied cls) (forms before)) (copied cls f) t))) (one_pointed cls (parts_from (forms ps))) ∙ sym (map-both P (also (copied cls f)) (one_pointed cls (parts_from (forms ps))))

        Rest : Type 0
        Rest = (gs : List Form) → after_tasks s cls (alternatives n nodes (before ++ p ∷ []) ps) gs ≡ gs ++ map Q (one_pointed cls (parts_from (forms ps)))

        go : Rest → (x : Option Form) → pointed cls (form_at s p.0) ≡ x → after_tasks s cls (alternatives n nodes before (p ∷ ps)) fs ≡ fs ++ map P (one_pointed cls (parts_from (forms (p ∷ ps))))
        go rest None h =
            ap (λ b. after_tasks s cls ((if b then alternative n before p ps else []) ++ alternatives n nodes (before ++ p ∷ []) ps) fs) (mark-tells p.0 ∙ ap there h)
            ∙ rest fs ∙ ap (λ z. fs ++ z) shifted ∙ ap (λ x. fs ++ map P (map (λ g. also g (copied_each cls (parts_from (forms ps)))) (option_to_list x) ++ map (also (copied cls f)) (one_pointed cls (parts_from (forms ps))))) (sym h)
        go rest (Some q) h =
            ap (λ b. after_tasks s cls ((if b then alternative n before p ps else []) ++ alternatives n nodes (before ++ p ∷ []) ps) fs) (mark-tells p.0 ∙ ap there h)
            ∙ after-append (alternative n before p ps) (alternatives n nodes (before ++ p ∷ []) ps) fs
            ∙ ap (after_tasks s cls (alternatives n nodes (before ++ p ∷ []) ps)) (after-alternative n before ps p q fs e h)
            ∙ rest (fs ++ P (also q (copied_each cls (parts_from (forms ps)))) ∷ []) ∙ ap (λ z. (fs ++ P (also q (copied_each cls (parts_from (forms ps)))) ∷ []) ++ z) shifted
            ∙ append_assoc fs (P (also q (copied_each cls (parts_from (forms ps)))) ∷ []) (map P (map (also (copied cls f)) (one_pointed cls (parts_from (forms ps)))))
            ∙ ap (λ x. fs ++ map P (map (λ g. also g (copied_each cls (parts_from (forms ps)))) (option_to_list x) ++ map (also (copied cls f)) (one_pointed cls (parts_from (forms ps))))) (sym h)

    -- the pointed form of a union
    pub point-union : (n : ℕ) (ps : List ExprId) (fs : List Form) → n ≡ how_many (map (answer_at nodes) (map number ps))
        → after_tasks s cls (map task.Point ps ++ task.Choice n ∷ []) fs ≡ fs ++ option_to_list (pointed cls (Form.Union (parts_from (forms ps))))
    point-union n ps fs e =
        after-append (map task.Point ps) (task.Choice n ∷ []) fs ∙ ap (union_of_last n) (after-points ps fs)
        ∙ choice-together n fs (pointed_parts cls (parts_from (forms ps))) (e ∙ ap how_many (marks-tell (map number ps)) ∙ sym (parts-count cls (parts_from (forms ps))))

    -- the pointed form of a product
    pub point-product : (n : ℕ) (ps : List ExprId) (fs : List Form) → n ≡ how_many (map (answer_at nodes) (map number ps))
        → after_tasks s cls (alternatives (length ps) nodes [] ps ++ task.Choice n ∷ []) fs ≡ fs ++ option_to_list (pointed cls (Form.Product (parts_from (forms ps))))
    point-product n ps fs e =
        after-append (alternatives (length ps) nodes [] ps) (task.Choice n ∷ []) fs ∙ ap (union_of_last n) (after-alternatives (length ps) [] ps fs (let z : length ps ≡ 0 + length ps = omega arith in z))
        ∙ choice-together n fs (map Form.Product (one_pointed cls (parts_from (forms ps)))) (e ∙ ap how_many (marks-tell (map number ps)) ∙ sym (products-count cls (parts_from (forms ps))) ∙ sym (length-map (one_pointed cls (parts_from (forms ps))) Form.Product))

  -- the pointed form of a sequence
  pub point-seq : (p : ExprId) (q : Form) (fs : List Form) → pointed cls (form_at s p.0) ≡ Some q
      → after_tasks s cls (task.Copy p ∷ task.Seq ∷ task.Point p ∷ task.Copy p ∷ task.Seq ∷ task.Product 3 ∷ []) fs ≡ fs ++ around (copied cls (form_at s p.0)) q ∷ []
  point-seq p q fs h =
      ap (λ z. last (put_together (map Form.Seq) 1 ((z ++ option_to_list (pointed cls (form_at s p.0))) ++ c ∷ []))) (together (map Form.Seq) 1 fs (c ∷ []) refl)
      ∙ ap (λ x. last (put_together (map Form.Seq) 1 (((fs ++ Form.Seq c ∷ []) ++ option_to_list x) ++ c ∷ []))) h
      ∙ ap last (together (map Form.Seq) 1 ((fs ++ Form.Seq c ∷ []) ++ q ∷ []) (c ∷ []) refl ∙ append_assoc (fs ++ Form.Seq c ∷ []) (q ∷ []) (Form.Seq c ∷ []) ∙ append_assoc fs (Form.Seq c ∷ []) (q ∷ Form.Seq c ∷ []))
      ∙ together (λ gs. Form.Product (parts_from gs) ∷ []) 3 fs (Form.Seq c ∷ q ∷ Form.Seq c ∷ []) refl
    where
      c : Form
      c = copied cls (form_at s p.0)

      last : List Form → List Form
      last z = put_together (λ gs. Form.Product (parts_from gs) ∷ []) 3 z

  -- copies
  pub copy-union : (n : ℕ) (ps : List ExprId) (fs : List Form) → n ≡ length ps → after_tasks s cls (map task.Copy ps ++ task.Union n ∷ []) fs ≡ fs ++ copied cls (Form.Union (parts_from (forms ps))) ∷ []
  copy-union n ps fs e = after-append (map task.Copy ps) (task.Union n ∷ []) fs ∙ ap (put_together (λ gs. Form.Union (parts_from gs) ∷ []) n) (after-copies ps fs) ∙ together (λ gs. Form.Union (parts_from gs) ∷ []) n fs (map (copied cls) (forms ps)) (e ∙ copies-count ps) ∙ ap (λ z. fs ++ Form.Union z ∷ []) (sym (copied-list cls (forms ps)))

  pub copy-product : (n : ℕ) (ps : List ExprId) (fs : List Form) → n ≡ length ps → after_tasks s cls (map task.Copy ps ++ task.Product n ∷ []) fs ≡ fs ++ copied cls (Form.Product (parts_from (forms ps))) ∷ []
  copy-product n ps fs e = after-append (map task.Copy ps) (task.Product n ∷ []) fs ∙ ap (put_together (λ gs. Form.Product (parts_from gs) ∷ []) n) (after-copies ps fs) ∙ together (λ gs. Form.Product (parts_from gs) ∷ []) n fs (map (copied cls) (forms ps)) (e ∙ copies-count ps) ∙ ap (λ z. fs ++ Form.Product z ∷ []) (sym (copied-list cls (forms ps)))

  pub copy-seq : (p : ExprId) (fs : List Form) → after_tasks s cls (task.Copy p ∷ task.Seq ∷ []) fs ≡ fs ++ copied cls (Form.Seq (form_at s p.0)) ∷ []
  copy-seq p fs = together (map Form.Seq) 1 fs (copied cls (form_at s p.0) ∷ []) refl

  -- what a copy and a pointed form are, from a node
  pub copy-form : IsSound s → (e : ExprId) (n : Node) → node_at s e.0 ≡ Some n → (f : Form) → ((r : Range) → copied cls (node_form (all_forms s) n r) ≡ f) → (fs : List Form) → after_task s cls (task.Copy e) fs ≡ fs ++ f ∷ []
  copy-form sound e n at f h fs = let x = form-step s sound e.0 n at in ap (λ g. fs ++ copied cls g ∷ []) x.1 ∙ ap (λ z. fs ++ z ∷ []) (h x.0)

  pub point-form : IsSound s → (e : ExprId) (n : Node) → node_at s e.0 ≡ Some n → (g : Option Form) → ((r : Range) → pointed cls (node_form (all_forms s) n r) ≡ g) → (fs : List Form) → after_task s cls (task.Point e) fs ≡ fs ++ option_to_list g
  point-form sound e n at g h fs = let x = form-step s sound e.0 n at in ap (λ f. fs ++ option_to_list (pointed cls f)) x.1 ∙ ap (λ z. fs ++ option_to_list z) (h x.0)

  -- some tasks in the place of one
  pub done-replaced : (t : Task) (more left now : List Task) (l : Layout) → now ≡ more ++ left → AllByRecursion (IsInside (length s.nodes)) more → ((fs : List Form) → after_tasks s cls more fs ≡ after_task s cls t fs) → IsTaskDone s cls t left now l l
  done-replaced t more left now l put inside same = record {
    inside = λ h. subst (AllByRecursion (IsInside (length s.nodes))) (sym put) (all-both (IsInside (length s.nodes)) more left inside h);
    same = λ names fs is. (fs, is, ap (λ z. after_tasks s cls z fs) put ∙ after-append more left fs ∙ ap (after_tasks s cls left) (same fs));
  }

  -- a leaf is laid out
  pub done-leaf : (t : Task) (left : List Task) (before after : Layout) (f : Form) (n : Node) → ((fs : List Form) → after_task s cls t fs ≡ fs ++ f ∷ []) → ((first : ℕ) → laid first f ≡ n ∷ []) → plain_range n ≡ plain
      → ((names : List (List ℕ)) (fs : List Form) (g : Form) → IsLayout names fs before → ((first : ℕ) → laid first g ≡ n ∷ []) → plain_range n ≡ plain → IsLayout names (fs ++ g ∷ []) after)
      → IsTaskDone s cls t left left before after
  done-leaf t left before after f n same shape ranged h = record {
    inside = λ k. k;
    same = λ names fs is. (fs ++ f ∷ [], h names fs f is shape ranged, ap (after_tasks s cls left) (sym (same fs)));
  }

  -- nothing is to be done
  pub done-none : (t : Task) (left : List Task) (l : Layout) → ((fs : List Form) → after_task s cls t fs ≡ fs ++ []) → IsTaskDone s cls t left left l l
  done-none t left l same = record { inside = λ k. k; same = λ names fs is. (fs, is, ap (after_tasks s cls left) (sym (same fs ∙ append-nil fs))) }

  -- the last forms are put together
  pub done-together : (t : Task) (left : List Task) (before after : Layout) → ((names : List (List ℕ)) (fs : List Form) → IsLayout names fs before → IsLayout names (after_task s cls t fs) after) → IsTaskDone s cls t left left before after
  done-together t left before after h = record { inside = λ k. k; same = λ names fs is. (after_task s cls t fs, h names fs is, refl) }

  -- the tasks that are left make all forms from those that are laid out
  pub record IsUnderWay (start : Layout) (tasks : List Task) (l : Layout) : Type 0 where
    pub inside : AllByRecursion (IsInside (length s.nodes)) tasks
    pub makes : (names : List (List ℕ)) → IsLayout names [] start → (fs : List Form) × IsLayout names fs l
        × (after_tasks s cls tasks fs ≡ pointed_parts cls (parts_from (body_forms s)) ++ map (copied cls) (body_forms s))

  pub under_way-on : (start before after : Layout) (t : Task) (left now : List Task) → IsUnderWay start (t ∷ left) before → IsTaskDone s cls t left now before after → IsUnderWay start now after
  under_way-on start before after t left now h k = record {
    inside = k.inside (h.inside).1;
    makes = λ names is. let a = h.makes names is in let b = k.same names a.0 a.1 in (b.0, b.1, b.2 ∙ a.2);
  }

  pub under_way-end : (start l : Layout) (tasks : List Task) → tasks ≡ [] → IsUnderWay start tasks l → (names : List (List ℕ)) → IsLayout names [] start → IsLayout names (pointed_parts cls (parts_from (body_forms s)) ++ map (copied cls) (body_forms s)) l
  under_way-end start l tasks e h names is = let a = h.makes names is in subst (λ z. IsLayout names z l) (ap (λ ts. after_tasks s cls ts a.0) (sym e) ∙ a.2) a.1

  pub under_way-start : (start : Layout) (bodies : List ExprId) (tasks : List Task) → IsSound s → map number bodies ≡ s.bodies → tasks ≡ map task.Point bodies ++ map task.Copy bodies → IsUnderWay start tasks start
  under_way-start start bodies tasks sound are e = record {
    inside = subst (AllByRecursion (IsInside (length s.nodes))) (sym e) (let inside = are-inside (length s.nodes) bodies (λ i body at. body_in_range s sound i body (ap (λ z. slice_get z i) (sym are) ∙ at)) in all-both (IsInside (length s.nodes)) (map task.Point bodies) (map task.Copy bodies) (points-inside (length s.nodes) bodies inside) (copies-inside (length s.nodes) bodies inside));
    makes = λ names is. ([], is, ap (λ ts. after_tasks s cls ts []) e ∙ after-append (map task.Point bodies) (map task.Copy bodies) [] ∙ ap (after_tasks s cls (map task.Copy bodies)) (after-points bodies []) ∙ after-copies bodies (pointed_parts cls (parts_from (forms bodies))) ∙ ap (λ z. pointed_parts cls (parts_from (map (found (all_forms s)) z)) ++ map (copied cls) (map (found (all_forms s)) z)) are);
  }
