-- One visit goes on as ideal making does: a lemma for each kind of node.
use Rattle.std.proofs.Common.{◌≡◌, ◌⊎◌, inl, inr, ℕ, suc, ◌≤◌, List, [], ◌∷◌, ◌++◌, refl, sym, ◌∙◌, ap, subst, append_assoc, append-nil, replicate, slice_get, Some}
use Rattle.bz_model.specs.declared.cell.Cell.{Cell}
use Rattle.bz_model.specs.Fraction.{Fraction}
use Rattle.bz_model.specs.Spec.{Spec, Node, node_at, body_of}
use Rattle.bz_model.specs.Cell.{IsInCell, AreInCells}
use Rattle.bz_model.specs.Object.{Object, Objects, more}
use Rattle.bz_model.specs.Measures.{HasZero}
use Rattle.bz_model.specs.Ideal.{IsIdealOption}
use Rattle.bz_model.specs.Making.{Made, Just, Over, AllMade, All, AllOver, Makes, MakesEach, ClassMakes, IsCounted}
use Rattle.bz_model.specs.Making as making
use Rattle.object_store.specs.declared.token.Token.{Token}
use Rattle.object_store.specs.declared.token.Token.TheVariants as token
use Rattle.object_store.specs.Tokens.{tokens_of, tokens_all}
use Rattle.object_store.proofs.NextToken.{tokens_all-joined, form-tokens}
use Rattle.shape_sampler.specs.Belonging.{MakesTokens, Continues, IsIdealOver}
use Rattle.shape_sampler.proofs.Numbers.{apart, none_in, one_in}
use Rattle.shape_sampler.proofs.Making.{leading, nothing, never_over, over_cases, parted, over_parted, count-made}

-- The nodes before make what begins with these tokens, from these numbers and those from which the nodes after them make the rest.
pub record MakesAhead (s : Spec) (x : Fraction) (before : List ℕ) (room : ℕ) (us : List Fraction) (tokens : List Token) (os : Objects) (r : ℕ) (left : List Fraction) : Type 0 where
  pub objects : Objects
  pub made : MakesEach s x before room us (All objects r) left
  pub spelled : tokens_all objects ≡ tokens ++ tokens_all os

-- A visit turns the nodes before, with their room, into the nodes now, with theirs: it adds tokens, and cells for the numbers that it takes.
pub record Turns (s : Spec) (x : Fraction) (before : List ℕ) (room : ℕ) (tokens : List Token) (cells : List Cell) (now : List ℕ) (room_now : ℕ) : Type 0 where
  pub makes : (us rest left : List Fraction) (os : Objects) (r : ℕ) → AreInCells us cells → MakesEach s x now room_now rest (All os r) left → MakesAhead s x before room (us ++ rest) tokens os r left
  pub over : (us rest left : List Fraction) → AreInCells us cells → MakesEach s x now room_now rest AllOver left → MakesEach s x before room (us ++ rest) AllOver left

module _ (s : Spec) (x : Fraction) where
  -- an attempt that went on as ideal making does goes on so after a visit
  pub goes-on : {whole : ℕ} {tokens : List Token} {cells : List Cell} {room : ℕ} {before : List ℕ} {ts : List Token} {cs : List Cell} {now : List ℕ} {room_now : ℕ} → Continues s x whole tokens cells room before → Turns s x before room ts cs now room_now → Continues s x whole (tokens ++ ts) (cells ++ cs) room_now now
  goes-on {whole} {tokens} {cells} {room} {before} {ts} {cs} {now} {room_now} g t = record { makes = makes; over = over }
    where
      makes : (us rest left : List Fraction) (os : Objects) (r : ℕ) → AreInCells us (cells ++ cs) → MakesEach s x now room_now rest (All os r) left → MakesTokens s x whole (us ++ rest) ((tokens ++ ts) ++ tokens_all os) r left
      makes us rest left os r inside k =
          let a = apart us cells cs inside in
          let b = t.makes a.back rest left os r a.in_back k in
          let m = g.makes a.front (a.back ++ rest) left b.objects r a.in_front b.made in
          let numbers : a.front ++ (a.back ++ rest) ≡ us ++ rest = sym (append_assoc a.front a.back rest) ∙ ap (λ vs. vs ++ rest) (sym a.whole) in
          record {
            object = m.object;
            made = subst (λ vs. ClassMakes s x 0 whole vs (Just m.object r) left) numbers m.made;
            spelled = m.spelled ∙ ap (λ us. tokens ++ us) b.spelled ∙ sym (append_assoc tokens ts (tokens_all os));
          }

      over : (us rest left : List Fraction) → AreInCells us (cells ++ cs) → MakesEach s x now room_now rest AllOver left → ClassMakes s x 0 whole (us ++ rest) Over left
      over us rest left inside k =
          let a = apart us cells cs inside in
          let m = g.over a.front (a.back ++ rest) left a.in_front (t.over a.back rest left a.in_back k) in
          subst (λ vs. ClassMakes s x 0 whole vs Over left) (sym (append_assoc a.front a.back rest) ∙ ap (λ vs. vs ++ rest) (sym a.whole)) m

  -- a visit that is over the room for all numbers of its cells makes the attempt over
  pub is-over : {whole : ℕ} {tokens : List Token} {cells : List Cell} {room : ℕ} {before : List ℕ} {cs : List Cell} → Continues s x whole tokens cells room before → ((us rest : List Fraction) → AreInCells us cs → MakesEach s x before room (us ++ rest) AllOver rest) → IsIdealOver s x whole (cells ++ cs)
  is-over {whole} {cells = cells} {cs = cs} g o = record { over = over }
    where
      over : (us rest : List Fraction) → AreInCells us (cells ++ cs) → ClassMakes s x 0 whole (us ++ rest) Over rest
      over us rest inside =
          let a = apart us cells cs inside in
          let m = g.over a.front (a.back ++ rest) rest a.in_front (o a.back rest a.in_back) in
          subst (λ vs. ClassMakes s x 0 whole vs Over rest) (sym (append_assoc a.front a.back rest) ∙ ap (λ vs. vs ++ rest) (sym a.whole)) m

  -- an attempt starts with the body of class 0 and the whole room
  pub begins : (whole body : ℕ) → body_of s 0 ≡ Some body → Continues s x whole [] [] whole (body ∷ [])
  begins whole body at = record { makes = makes; over = over }
    where
      makes : (us rest left : List Fraction) (os : Objects) (r : ℕ) → AreInCells us [] → MakesEach s x (body ∷ []) whole rest (All os r) left → MakesTokens s x whole (us ++ rest) ([] ++ tokens_all os) r left
      makes us rest left os r inside k =
          let l = leading s x k in
          let n = nothing s x l.tail in
          let numbers : rest ≡ us ++ rest = ap (λ vs. vs ++ rest) (sym (none_in us inside)) in
          let made : Makes s x body whole rest (Just l.object r) left = subst (λ b. Makes s x body whole rest (Just l.object b) left) n.same_room (subst (λ vs. Makes s x body whole rest (Just l.object l.between) vs) n.same_numbers l.head) in
          record {
            object = l.object;
            made = subst (λ vs. ClassMakes s x 0 whole vs (Just l.object r) left) numbers (body, at, made);
            spelled = sym (append-nil (tokens_of l.object)) ∙ ap (λ ps. tokens_all (more l.object ps)) (sym n.objects) ∙ ap tokens_all (sym l.split);
          }

      over : (us rest left : List Fraction) → AreInCells us [] → MakesEach s x (body ∷ []) whole rest AllOver left → ClassMakes s x 0 whole (us ++ rest) Over left
      over us rest left inside k =
          let numbers : rest ≡ us ++ rest = ap (λ vs. vs ++ rest) (sym (none_in us inside)) in
          elim (over_cases s x k) [
            | inl h ↦ subst (λ vs. ClassMakes s x 0 whole vs Over left) numbers (body, at, h)
            | inr n ↦ absurd (never_over s x n.tail)
          ]

  -- a leaf that takes no number and makes one object with one token
  leaf : {e room room_now : ℕ} {es : List ℕ} (o : Object) (t : Token) → ((us : List Fraction) → Makes s x e room us (Just o room_now) us) → tokens_of o ≡ t ∷ [] → Turns s x (e ∷ es) room (t ∷ []) [] es room_now
  leaf {e} {room} {room_now} {es} o t h spelled = record {
    makes = λ us rest left os r inside k.
        let numbers : rest ≡ us ++ rest = ap (λ vs. vs ++ rest) (sym (none_in us inside)) in
        record {
          objects = more o os;
          made = subst (λ vs. MakesEach s x (e ∷ es) room vs (All (more o os) r) left) numbers (making.first o room_now (All os r) (h rest) k refl);
          spelled = ap (λ ts. ts ++ tokens_all os) spelled;
        };
    over = λ us rest left inside k.
        let numbers : rest ≡ us ++ rest = ap (λ vs. vs ++ rest) (sym (none_in us inside)) in
        subst (λ vs. MakesEach s x (e ∷ es) room vs AllOver left) numbers (making.first o room_now AllOver (h rest) k refl);
  }

  -- a neutral leaf adds its token
  pub empty-turns : (e room : ℕ) (es word : List ℕ) → node_at s e ≡ Some (Node.Empty word) → Turns s x (e ∷ es) room (token.Unit ∷ []) [] es room
  empty-turns e room es word at = leaf Object.Unit_ token.Unit (λ us. making.empty word at) refl

  -- an atom adds its token and lowers the room
  pub atom-turns : (e room : ℕ) (es word : List ℕ) → node_at s e ≡ Some (Node.Atom word) → Turns s x (e ∷ es) (suc room) (token.Dot ∷ []) [] es room
  atom-turns e room es word at = leaf Object.Dot token.Dot (λ us. making.atom word at) refl

  -- at room 0 an atom is over
  pub atom-over : (e : ℕ) (es word : List ℕ) → node_at s e ≡ Some (Node.Atom word) → (us rest : List Fraction) → AreInCells us [] → MakesEach s x (e ∷ es) 0 (us ++ rest) AllOver rest
  atom-over e es word at us rest inside = let numbers : rest ≡ us ++ rest = ap (λ vs. vs ++ rest) (sym (none_in us inside)) in subst (λ vs. MakesEach s x (e ∷ es) 0 vs AllOver rest) numbers (making.over (making.no_room word at))

  -- a class puts its body in its place
  pub class-turns : (e c body room : ℕ) (es : List ℕ) → node_at s e ≡ Some (Node.Class c) → body_of s c ≡ Some body → Turns s x (e ∷ es) room [] [] (body ∷ es) room
  class-turns e c body room es at b = record {
    makes = λ us rest left os r inside k.
        let numbers : rest ≡ us ++ rest = ap (λ vs. vs ++ rest) (sym (none_in us inside)) in
        let l = leading s x k in
        record {
          objects = os;
          made = subst (λ vs. MakesEach s x (e ∷ es) room vs (All os r) left) numbers (subst (λ ps. MakesEach s x (e ∷ es) room rest (All ps r) left) (sym l.split) (making.first l.object l.between (All l.others r) (making.class c body at b l.head) l.tail refl));
          spelled = refl;
        };
    over = λ us rest left inside k.
        let numbers : rest ≡ us ++ rest = ap (λ vs. vs ++ rest) (sym (none_in us inside)) in
        subst (λ vs. MakesEach s x (e ∷ es) room vs AllOver left) numbers (elim (over_cases s x k) [
          | inl h ↦ making.over (making.class c body at b h)
          | inr n ↦ making.first n.object n.between AllOver (making.class c body at b n.head) n.tail refl
        ]);
  }

  -- a product puts its parts in its place
  pub product-turns : (e room : ℕ) (parts es : List ℕ) → node_at s e ≡ Some (Node.Product parts) → Turns s x (e ∷ es) room [] [] (parts ++ es) room
  product-turns e room parts es at = record {
    makes = λ us rest left os r inside k.
        let numbers : rest ≡ us ++ rest = ap (λ vs. vs ++ rest) (sym (none_in us inside)) in
        let p = parted s x parts es k in
        record {
          objects = more (Object.Tuple p.front) p.back;
          made = subst (λ vs. MakesEach s x (e ∷ es) room vs (All (more (Object.Tuple p.front) p.back) r) left) numbers (making.first (Object.Tuple p.front) p.between (All p.back r) (making.product parts (All p.front p.between) at p.head refl) p.tail refl);
          spelled = sym (tokens_all-joined p.front p.back) ∙ ap tokens_all (sym p.split);
        };
    over = λ us rest left inside k.
        let numbers : rest ≡ us ++ rest = ap (λ vs. vs ++ rest) (sym (none_in us inside)) in
        subst (λ vs. MakesEach s x (e ∷ es) room vs AllOver left) numbers (elim (over_parted s x parts es k) [
          | inl h ↦ making.over (making.product parts AllOver at h refl)
          | inr n ↦ making.first (Object.Tuple n.front) n.between AllOver (making.product parts (All n.front n.between) at n.head refl) n.tail refl
        ]);
  }

  -- a union takes a number and puts the part that is its ideal option in its place
  pub union-turns : (e i part room : ℕ) (parts es : List ℕ) (c : Cell) → node_at s e ≡ Some (Node.Union parts) → slice_get parts i ≡ Some part → ((u : Fraction) → IsInCell c.k c.b u → IsIdealOption s x u e i) → Turns s x (e ∷ es) room (token.Pick i ∷ []) (c ∷ []) (part ∷ es) room
  union-turns e i part room parts es c node at ideal = record {
    makes = λ us rest left os r inside k.
        let n = one_in us c inside in
        let l = leading s x k in
        record {
          objects = more (Object.Pick i l.object) l.others;
          made = subst (λ vs. MakesEach s x (e ∷ es) room (vs ++ rest) (All (more (Object.Pick i l.object) l.others) r) left) (sym n.is) (making.first (Object.Pick i l.object) l.between (All l.others r) (making.union parts i part (Just l.object l.between) node (ideal n.number n.inside) at l.head refl) l.tail refl);
          spelled = ap (λ ps. token.Pick i ∷ tokens_all ps) (sym l.split);
        };
    over = λ us rest left inside k.
        let n = one_in us c inside in
        subst (λ vs. MakesEach s x (e ∷ es) room (vs ++ rest) AllOver left) (sym n.is) (elim (over_cases s x k) [
          | inl h ↦ making.over (making.union parts i part Over node (ideal n.number n.inside) at h refl)
          | inr m ↦ making.first (Object.Pick i m.object) m.between AllOver (making.union parts i part (Just m.object m.between) node (ideal n.number n.inside) at m.head refl) m.tail refl
        ]);
  }

  -- a sequence, set or cycle takes a number and puts its part in its place as often as the ideal option says
  pub counted-turns : (e i part room : ℕ) (node : Node) (form : Objects → Object) (es : List ℕ) (c : Cell) → node_at s e ≡ Some node → IsCounted node part form → (i ≤ room) ⊎ HasZero s part → ((u : Fraction) → IsInCell c.k c.b u → IsIdealOption s x u e i) → Turns s x (e ∷ es) room (token.Count i ∷ []) (c ∷ []) (replicate i part ++ es) room
  counted-turns e i part room node form es c at is small ideal = record {
    makes = λ us rest left os r inside k.
        let n = one_in us c inside in
        let p = parted s x (replicate i part) es k in
        let number = count-made s x i part p.head in
        record {
          objects = more (form p.front) p.back;
          made = subst (λ vs. MakesEach s x (e ∷ es) room (vs ++ rest) (All (more (form p.front) p.back) r) left) (sym n.is) (making.first (form p.front) p.between (All p.back r) (making.counted node part i form (All p.front p.between) at is (ideal n.number n.inside) small p.head refl) p.tail refl);
          spelled = ap (λ ts. ts ++ tokens_all p.back) (form-tokens s node part form p.front is ∙ ap (λ j. token.Count j ∷ tokens_all p.front) number) ∙ ap (λ ts. token.Count i ∷ ts) (sym (tokens_all-joined p.front p.back) ∙ ap tokens_all (sym p.split));
        };
    over = λ us rest left inside k.
        let n = one_in us c inside in
        subst (λ vs. MakesEach s x (e ∷ es) room (vs ++ rest) AllOver left) (sym n.is) (elim (over_parted s x (replicate i part) es k) [
          | inl h ↦ making.over (making.counted node part i form AllOver at is (ideal n.number n.inside) small h refl)
          | inr m ↦ making.first (form m.front) m.between AllOver (making.counted node part i form (All m.front m.between) at is (ideal n.number n.inside) small m.head refl) m.tail refl
        ]);
  }

  -- where no option up to the room is ideal for any number of the cell, a counted node whose part has no object of size 0 is over
  pub counted-over : (e part room : ℕ) (node : Node) (form : Objects → Object) (es : List ℕ) (c : Cell) → node_at s e ≡ Some node → IsCounted node part form → ¬ (HasZero s part) → ((u : Fraction) → IsInCell c.k c.b u → (i : ℕ) → i ≤ room → ¬ (IsIdealOption s x u e i)) → (us rest : List Fraction) → AreInCells us (c ∷ []) → MakesEach s x (e ∷ es) room (us ++ rest) AllOver rest
  counted-over e part room node form es c at is no_zero never us rest inside =
      let n = one_in us c inside in
      subst (λ vs. MakesEach s x (e ∷ es) room (vs ++ rest) AllOver rest) (sym n.is) (making.over (making.too_many node part form at is (never n.number n.inside) no_zero))
