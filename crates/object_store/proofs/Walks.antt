-- A walk's step keeps what is known of the way down, and comes nearer to the end.
use Rattle.std.proofs.Common.{◌≡◌, ℕ, suc, ◌+◌, ◌-◌, ◌*◌, ◌<◌, List, [], ◌∷◌, ◌++◌, length, drop, arith, sym, ap, subst, subst₂, slice_get, Some, length-drop, refl, ◌∙◌, zero}
use Rattle.bz_laws.proofs.Samples.{AllByRecursion-append}
use Rattle.bz_model.specs.Spec.{Spec}
use Rattle.class_system.specs.Sound.{IsSound}
use Rattle.object_store.specs.declared.token.Token.{Token}
use Rattle.object_store.specs.declared.visit.Visit.{Visit}
use Rattle.object_store.specs.Tokens.{AreOf}
use Rattle.object_store.specs.Walk.{AllBelow}
use Rattle.object_store.specs.Descent.{Descent}
use Rattle.object_store.specs.Seen.{Seen, IsWayDown, nodes_below, tokens_after}
use Rattle.object_store.specs.Waiting.{AreWaiting, Shows}
use Rattle.object_store.specs.Walking.{IsOnItsWay, IsVisitOfWalk}
use Rattle.object_store.proofs.Waiting.{shown}
use Rattle.object_store.proofs.Steps.{same-asked, seen-below, expands-seen, token-seen}
use Rattle.object_store.proofs.Descent.{descent-start, descent-expand, too_long}

-- The node at place 0 is the first of the nodes.
pub first-of : (ws : List ℕ) (e : ℕ) → Some e ≡ slice_get ws 0 → ws ≡ e ∷ drop 1 ws
first-of [] e h = absurd (cc)
first-of (w ∷ ws) e h = let same : e ≡ w = cc in ap (λ v. v ∷ ws) (sym same)

-- At the start a node waits, with all classes and products before it.
pub starts : (s : Spec) (ws : List ℕ) (e n : ℕ) → ws ≡ e ∷ [] → e < length s.nodes → n ≡ length s.nodes → IsOnItsWay s ws n
starts s ws e n one within all =
    let range : AllBelow (length s.nodes) ws = subst (AllBelow (length s.nodes)) (sym one) (within, tt) in
    record { start = ws; descent = subst (λ m. Descent s ws ws m) (sym all) (descent-start s ws range) }

module _ (s : Spec) (sound : IsSound s) (e : ℕ) (es ws : List ℕ) (ts : List Token) (way : ℕ) (v : Visit) (first : ws ≡ e ∷ es) (on_way : IsOnItsWay s ws way) where
  descent : Descent s on_way.start (e ∷ es) way
  descent = subst (λ gs. Descent s on_way.start gs way) first on_way.descent

  -- The first node is one of the specification's.
  pub node-within : e < length s.nodes
  node-within = descent.in_range.0

  -- A way down that is as long as there are nodes and goes on leads to no object.
  pub no-way : IsWayDown v → way ≡ 0 → ¬ (AreOf s ws ts)
  no-way down none_left a = too_long s on_way.start e es (subst (λ n. Descent s on_way.start (e ∷ es) n) none_left descent) ts ((on_way.descent.same ts).1 a)

  -- Where the first node has no object with the tokens, there are no objects of the nodes that wait.
  pub none-first : ((others : List ℕ) → ¬ (AreOf s (e ∷ others) ts)) → ¬ (AreOf s ws ts)
  none-first never a = never es (subst (λ gs. AreOf s gs ts) first a)

  module _ (seen : Seen s e ts v) (fs : List ℕ) (put : fs ≡ nodes_below s e v ++ es) where
    -- After a token a new way begins.
    pub way-after-token : (n : ℕ) → n ≡ length s.nodes → IsOnItsWay s fs n
    way-after-token n all =
        let range : AllBelow (length s.nodes) fs = subst (AllBelow (length s.nodes)) (sym put) (AllByRecursion-append (λ f. f < length s.nodes) (nodes_below s e v) es (seen-below s sound e ts v seen) descent.in_range.1) in
        record { start = fs; descent = subst (λ m. Descent s fs fs m) (sym all) (descent-start s fs range) }

    -- A class or a product is one step further on the way.
    pub way-further : IsWayDown v → (later : ℕ) → way ≡ suc later → IsOnItsWay s fs later
    way-further down later one_less = record {
      start = on_way.start;
      descent = subst (λ gs. Descent s on_way.start gs later) (sym put) (descent-expand s sound on_way.start e later es (nodes_below s e v ++ es) (expands-seen s e es ts v down seen) (subst (λ n. Descent s on_way.start (e ∷ es) n) one_less descent));
    }

    visit-made : (us : List Token) (z : ℕ) → us ≡ tokens_after v ts → length us * suc (length s.nodes) + z < length ts * suc (length s.nodes) + way → IsVisitOfWalk (record { system = s; waiting = ws; left = ts; way = way }) (record { system = s; waiting = fs; left = us; way = z }) e v
    visit-made us z after fewer = record {
      others = es;
      first = first;
      in_range = node-within;
      system = refl;
      shows = λ os w. subst₂ (λ gs vs. Shows s e es os ts v gs vs) (sym put) (sym after) (shown s e es os ts v seen (subst (λ gs. AreWaiting s gs os ts) first w));
      same = (
        λ a. subst₂ (AreOf s) (sym put) (sym after) ((same-asked s e es ts v seen).0 (subst (λ gs. AreOf s gs ts) first a)),
        λ a. subst (λ gs. AreOf s gs ts) (sym first) ((same-asked s e es ts v seen).1 (subst₂ (AreOf s) put after a)),
      );
      fewer = fewer;
    }

    fewer-tokens : (l m n y : ℕ) → l ≡ m - 1 → 0 < m → l * suc n + n < m * suc n + y
    fewer-tokens l zero n y h k = absurd (omega arith)
    fewer-tokens l (suc m) n y h k = let same : l ≡ m = omega arith in rw same (omega arith)

    -- A visit with a token.
    pub visit-with-token : ¬ (IsWayDown v) → (us : List Token) (n : ℕ) → us ≡ drop 1 ts → n ≡ length s.nodes → IsVisitOfWalk (record { system = s; waiting = ws; left = ts; way = way }) (record { system = s; waiting = fs; left = us; way = n }) e v
    visit-with-token no_way us n rest all =
        let t = token-seen s e es ts v no_way seen in
        let less : length us ≡ length ts - 1 = ap length rest ∙ length-drop 1 ts in
        visit-made us n (rest ∙ sym t.0) (subst (λ m. length us * suc (length s.nodes) + m < length ts * suc (length s.nodes) + way) (sym all) (fewer-tokens (length us) (length ts) (length s.nodes) way less t.1))

    -- A visit without a token.
    pub visit-down : tokens_after v ts ≡ ts → (later : ℕ) → way ≡ suc later → IsVisitOfWalk (record { system = s; waiting = ws; left = ts; way = way }) (record { system = s; waiting = fs; left = ts; way = later }) e v
    visit-down no_token later one_less = visit-made ts later (sym no_token) (omega arith)
