-- What a visit means for the tokens that are asked for, and where it leads.
use Rattle.std.proofs.Common.{◌≡◌, ◌↔◌, ℕ, ◌<◌, List, ◌∷◌, ◌++◌, length, drop, replicate, refl, sym, ◌∙◌, ap, subst, arith}
use Rattle.bz_model.specs.Spec.{Spec, Node}
use Rattle.bz_model.specs.Object.{Objects, Object}
use Rattle.bz_model.specs.Making.{IsCounted}
use Rattle.class_system.specs.Sound.{IsSound}
use Rattle.class_system.specs.NodeOrder.{HasPart}
use Rattle.object_store.specs.declared.token.Token.{Token}
use Rattle.object_store.specs.declared.token.Token.TheVariants as token
use Rattle.object_store.specs.declared.visit.Visit.{Visit}
use Rattle.object_store.specs.declared.visit.Visit.TheVariants as visit
use Rattle.object_store.specs.Tokens.{AreOf}
use Rattle.object_store.specs.Walk.{AllBelow, Expands}
use Rattle.object_store.specs.Seen.{Seen, IsListAt, IsWayDown, nodes_below, tokens_after, parts_at}
use Rattle.object_store.proofs.InRange.{part-below, body-below, product-parts, replicate-below}
use Rattle.object_store.proofs.NextToken.{of-class, of-product, of-empty, of-atom, of-union, of-counted}
use Rattle.object_store.proofs.Waiting.{asked, shown}

module _ (s : Spec) (e : ℕ) (es : List ℕ) (ts : List Token) where
  -- the tokens after a first one
  later : (t : Token) (us : List Token) → ts ≡ t ∷ us → ts ≡ t ∷ drop 1 ts
  later t us h = h ∙ ap (λ vs. t ∷ vs) (ap (drop 1) (sym h))

  some : (t : Token) (us : List Token) → ts ≡ t ∷ us → 0 < length ts
  some t us h = omega (arith, ap length h)

  -- a counted node asks for the same tokens as its parts, after its own token
  list-back : (node : ℕ → Node) (form : Objects → Object) (parts part : ℕ) → IsListAt node s e ts parts part → IsCounted (node part) part form → AreOf s (replicate parts part ++ es) (drop 1 ts) → AreOf s (e ∷ es) ts
  list-back node form parts part k c a = subst (AreOf s (e ∷ es)) (sym (later (token.Count parts) k.later k.is_token)) ((of-counted s e part (node part) form es k.is_node c (token.Count parts) (drop 1 ts)).1 (record { parts = parts; in_range = k.in_range; is_count = refl; later = a }))

  back : (v : Visit) → Seen s e ts v → AreOf s (nodes_below s e v ++ es) (tokens_after v ts) → AreOf s (e ∷ es) ts
  back (visit.Class body) k a = (of-class s e k.class body.0 es k.is_node k.is_body ts).1 a
  back visit.Product k a = (of-product s e k.parts es k.is_node ts).1 (subst (λ ps. AreOf s (ps ++ es) ts) (ap parts_at k.is_node) a)
  back visit.Empty k a = subst (AreOf s (e ∷ es)) (sym (later token.Unit k.later k.is_token)) ((of-empty s e k.word es k.is_node token.Unit (drop 1 ts)).1 (refl, a))
  back visit.Atom k a = subst (AreOf s (e ∷ es)) (sym (later token.Dot k.later k.is_token)) ((of-atom s e k.word es k.is_node token.Dot (drop 1 ts)).1 (refl, a))
  back (visit.Union option part) k a = subst (AreOf s (e ∷ es)) (sym (later (token.Pick option) k.later k.is_token)) ((of-union s e k.parts es k.is_node (token.Pick option) (drop 1 ts)).1 (record { option = option; part = part.0; is_part = k.is_part; is_pick = refl; later = a }))
  back (visit.Seq parts part) k a = list-back Node.Seq Object.SeqOf parts part.0 k (refl, refl) a
  back (visit.Set parts part) k a = list-back Node.Set Object.SetOf parts part.0 k (refl, refl) a
  back (visit.Cyc parts part) k a = list-back Node.Cyc Object.CycOf parts part.0 k (refl, refl) a

  forth : (v : Visit) → Seen s e ts v → AreOf s (e ∷ es) ts → AreOf s (nodes_below s e v ++ es) (tokens_after v ts)
  forth (visit.Class body) k a = (of-class s e k.class body.0 es k.is_node k.is_body ts).0 a
  forth visit.Product k a = subst (λ ps. AreOf s (ps ++ es) ts) (sym (ap parts_at k.is_node)) ((of-product s e k.parts es k.is_node ts).0 a)
  forth visit.Empty k a = let w = shown s e es a.objects ts visit.Empty k (record { belong = a.belong; spelled = a.spelled }) in asked s es w.others (drop 1 ts) w.waits
  forth visit.Atom k a = let w = shown s e es a.objects ts visit.Atom k (record { belong = a.belong; spelled = a.spelled }) in asked s es w.others (drop 1 ts) w.waits
  forth (visit.Union option part) k a = let w = shown s e es a.objects ts (visit.Union option part) k (record { belong = a.belong; spelled = a.spelled }) in asked s (part.0 ∷ es) _ (drop 1 ts) w.waits
  forth (visit.Seq parts part) k a = let w = shown s e es a.objects ts (visit.Seq parts part) k (record { belong = a.belong; spelled = a.spelled }) in asked s (replicate parts part.0 ++ es) _ (drop 1 ts) w.waits
  forth (visit.Set parts part) k a = let w = shown s e es a.objects ts (visit.Set parts part) k (record { belong = a.belong; spelled = a.spelled }) in asked s (replicate parts part.0 ++ es) _ (drop 1 ts) w.waits
  forth (visit.Cyc parts part) k a = let w = shown s e es a.objects ts (visit.Cyc parts part) k (record { belong = a.belong; spelled = a.spelled }) in asked s (replicate parts part.0 ++ es) _ (drop 1 ts) w.waits

  -- The tokens are those of objects of the nodes before a visit exactly where those after it are those of objects of the nodes after it.
  pub same-asked : (v : Visit) → Seen s e ts v → AreOf s (e ∷ es) ts ↔ AreOf s (nodes_below s e v ++ es) (tokens_after v ts)
  same-asked v k = (forth v k, back v k)

  -- A visit without a token is a step down.
  pub expands-seen : (v : Visit) → IsWayDown v → Seen s e ts v → Expands s e es (nodes_below s e v ++ es)
  expands-seen (visit.Class body) d k = Expands.class k.class body.0 k.is_node k.is_body refl
  expands-seen visit.Product d k = Expands.product k.parts k.is_node (ap (λ n. parts_at n ++ es) k.is_node)
  expands-seen visit.Empty d k = elim d [ ]
  expands-seen visit.Atom d k = elim d [ ]
  expands-seen (visit.Union option part) d k = elim d [ ]
  expands-seen (visit.Seq parts part) d k = elim d [ ]
  expands-seen (visit.Set parts part) d k = elim d [ ]
  expands-seen (visit.Cyc parts part) d k = elim d [ ]

  -- A visit with a token takes the first one.
  pub token-seen : (v : Visit) → ¬ (IsWayDown v) → Seen s e ts v → (tokens_after v ts ≡ drop 1 ts) × (0 < length ts)
  token-seen (visit.Class body) d k = absurd (d tt)
  token-seen visit.Product d k = absurd (d tt)
  token-seen visit.Empty d k = (refl, some token.Unit k.later k.is_token)
  token-seen visit.Atom d k = (refl, some token.Dot k.later k.is_token)
  token-seen (visit.Union option part) d k = (refl, some (token.Pick option) k.later k.is_token)
  token-seen (visit.Seq parts part) d k = (refl, some (token.Count parts) k.later k.is_token)
  token-seen (visit.Set parts part) d k = (refl, some (token.Count parts) k.later k.is_token)
  token-seen (visit.Cyc parts part) d k = (refl, some (token.Count parts) k.later k.is_token)

  pub no-token-seen : (v : Visit) → IsWayDown v → tokens_after v ts ≡ ts
  no-token-seen (visit.Class body) d = refl
  no-token-seen visit.Product d = refl
  no-token-seen visit.Empty d = elim d [ ]
  no-token-seen visit.Atom d = elim d [ ]
  no-token-seen (visit.Union option part) d = elim d [ ]
  no-token-seen (visit.Seq parts part) d = elim d [ ]
  no-token-seen (visit.Set parts part) d = elim d [ ]
  no-token-seen (visit.Cyc parts part) d = elim d [ ]

-- The nodes that wait after a visit are among the nodes of the specification.
module _ (s : Spec) (sound : IsSound s) (e : ℕ) (ts : List Token) where
  list-below : (node : ℕ → Node) (parts part : ℕ) → ((p : ℕ) → HasPart (node p) p) → IsListAt node s e ts parts part → AllBelow (length s.nodes) (replicate parts part)
  list-below node parts part has k = replicate-below (length s.nodes) parts part (part-below s sound e part (node part) k.is_node (has part))

  pub seen-below : (v : Visit) → Seen s e ts v → AllBelow (length s.nodes) (nodes_below s e v)
  seen-below (visit.Class body) k = (body-below s sound k.class body.0 k.is_body, tt)
  seen-below visit.Product k = subst (AllBelow (length s.nodes)) (sym (ap parts_at k.is_node)) (product-parts s sound e k.parts k.is_node)
  seen-below visit.Empty k = tt
  seen-below visit.Atom k = tt
  seen-below (visit.Union option part) k = (part-below s sound e part.0 (Node.Union k.parts) k.is_node (record { place = option; is_there = k.is_part }), tt)
  seen-below (visit.Seq parts part) k = list-below Node.Seq parts part.0 (λ p. record { place = 0; is_there = refl }) k
  seen-below (visit.Set parts part) k = list-below Node.Set parts part.0 (λ p. record { place = 0; is_there = refl }) k
  seen-below (visit.Cyc parts part) k = list-below Node.Cyc parts part.0 (λ p. record { place = 0; is_there = refl }) k
