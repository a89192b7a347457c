-- Objects that wait are written as they are.
use Rattle.std.proofs.Common.{◌≡◌, ℕ, suc, List, [], ◌∷◌, ◌++◌, length, replicate, arith, refl, sym, ◌∙◌, ap, subst, append_assoc, append-nil}
use Rattle.bz_model.specs.Spec.{Spec, Node}
use Rattle.bz_model.specs.Object.{Object, Objects, none, more, count}
use Rattle.object_store.specs.declared.token.Token.{Token}
use Rattle.object_store.specs.declared.visit.Visit.{Visit}
use Rattle.object_store.specs.declared.visit.Visit.TheVariants as visit
use Rattle.object_store.specs.Seen.{nodes_below, parts_at}
use Rattle.object_store.specs.Tokens.{tokens_of, tokens_all, BelongEach}
use Rattle.object_store.specs.Waiting.{joined, AreWaiting, Shows, ShowsClass, ShowsTuple, ShowsLeaf, ShowsPick, ShowsList}
use Rattle.pointing.specs.Writing.{token_at, ToCome, Copies}
use Rattle.pointing.proofs.Searches.{as-many}

-- What stands right below the first object that waits.
pub record Below (s : Spec) (e : ℕ) (es : List ℕ) (os : Objects) (v : Visit) (fs : List ℕ) (us : List Token) : Type 0 where
  pub object : Object
  pub others : Objects
  pub members : Objects
  pub nodes : List ℕ
  pub first : os ≡ more object others
  pub put : fs ≡ nodes ++ es
  pub many : length nodes ≡ length (nodes_below s e v)
  pub each : length nodes ≡ count members
  pub waits : AreWaiting s fs (joined members others) us
  pub spelled : tokens_of object ≡ token_at v ++ tokens_all members

module _ (s : Spec) (e : ℕ) (es : List ℕ) where
  below-class : (os : Objects) (ts : List Token) (body : ℕ) (fs : List ℕ) (us : List Token) (v : Visit) → length (nodes_below s e v) ≡ 1 → token_at v ≡ [] → ShowsClass s e es os ts body fs us → Below s e es os v fs us
  below-class none ts body fs us v one bare k = absurd (let none_there : BelongEach s (body ∷ es) none = subst (λ z. BelongEach s z none) k.put k.waits.belong in none_there)
  below-class (more o os) ts body fs us v one bare k = record {
    object = o;
    others = os;
    members = more o none;
    nodes = body ∷ [];
    first = refl;
    put = k.put;
    many = sym one;
    each = refl;
    waits = k.waits;
    spelled = sym (append-nil (tokens_of o)) ∙ ap (λ z. z ++ (tokens_of o ++ [])) (sym bare);
  }

  below-tuple : (os : Objects) (ts : List Token) (fs : List ℕ) (us : List Token) → ShowsTuple s e es os ts fs us → Below s e es os visit.Product fs us
  below-tuple os ts fs us k = record { object = Object.Tuple k.members; others = k.others; members = k.members; nodes = k.parts; first = k.is_tuple; put = k.put; many = sym (ap (λ z. length (parts_at z)) k.is_node); each = as-many s k.parts k.members k.belong; waits = k.waits; spelled = refl }

  below-leaf : (node : List ℕ → Node) (leaf : Object) (t : Token) (v : Visit) (os : Objects) (ts : List Token) (fs : List ℕ) (us : List Token) → tokens_of leaf ≡ token_at v ++ [] → length (nodes_below s e v) ≡ 0 → ShowsLeaf node leaf t s e es os ts fs us → Below s e es os v fs us
  below-leaf node leaf t v os ts fs us spelled zero_below k = record { object = leaf; others = k.others; members = none; nodes = []; first = k.is_leaf; put = k.put; many = sym zero_below; each = refl; waits = k.waits; spelled = spelled }

  below-pick : (option part : ℕ) (v : Visit) (os : Objects) (ts : List Token) (fs : List ℕ) (us : List Token) → ((o : Object) → tokens_of (Object.Pick option o) ≡ token_at v ++ tokens_of o) → length (nodes_below s e v) ≡ 1 → ShowsPick s e es os ts option part fs us → Below s e es os v fs us
  below-pick option part v os ts fs us spelled one k = record {
    object = Object.Pick option k.object;
    others = k.others;
    members = more k.object none;
    nodes = part ∷ [];
    first = k.is_pick;
    put = k.put;
    many = sym one;
    each = refl;
    waits = k.waits;
    spelled = spelled k.object ∙ ap (λ z. token_at v ++ z) (sym (append-nil (tokens_of k.object)));
  }

  below-list : (node : ℕ → Node) (form : Objects → Object) (parts part : ℕ) (v : Visit) (os : Objects) (ts : List Token) (fs : List ℕ) (us : List Token) → ((ps : Objects) → count ps ≡ parts → tokens_of (form ps) ≡ token_at v ++ tokens_all ps) → nodes_below s e v ≡ replicate parts part → ShowsList node form s e es os ts parts part fs us → Below s e es os v fs us
  below-list node form parts part v os ts fs us spelled below k = record {
    object = form k.members;
    others = k.others;
    members = k.members;
    nodes = replicate parts part;
    first = k.is_list;
    put = k.put;
    many = ap length (sym below);
    each = as-many s (replicate parts part) k.members k.belong;
    waits = k.waits;
    spelled = spelled k.members k.counted;
  }

  pub below-shown : (os : Objects) (ts : List Token) (v : Visit) (fs : List ℕ) (us : List Token) → Shows s e es os ts v fs us → Below s e es os v fs us
  below-shown os ts (visit.Class body) fs us k = below-class os ts body.0 fs us (visit.Class body) refl refl k
  below-shown os ts visit.Product fs us k = below-tuple os ts fs us k
  below-shown os ts visit.Empty fs us k = below-leaf Node.Empty Object.Unit_ _ visit.Empty os ts fs us refl refl k
  below-shown os ts visit.Atom fs us k = below-leaf Node.Atom Object.Dot _ visit.Atom os ts fs us refl refl k
  below-shown os ts (visit.Union option part) fs us k = below-pick option part.0 (visit.Union option part) os ts fs us (λ o. refl) refl k
  below-shown os ts (visit.Seq parts part) fs us k = below-list Node.Seq Object.SeqOf parts part.0 (visit.Seq parts part) os ts fs us (λ ps e. ap (λ n. token_at (visit.Seq n part) ++ tokens_all ps) e) refl k
  below-shown os ts (visit.Set parts part) fs us k = below-list Node.Set Object.SetOf parts part.0 (visit.Set parts part) os ts fs us (λ ps e. ap (λ n. token_at (visit.Set n part) ++ tokens_all ps) e) refl k
  below-shown os ts (visit.Cyc parts part) fs us k = below-list Node.Cyc Object.CycOf parts part.0 (visit.Cyc parts part) os ts fs us (λ ps e. ap (λ n. token_at (visit.Cyc n part) ++ tokens_all ps) e) refl k

-- All of some objects are written, and what is to come comes after them.
pub copies-all : (after : ToCome) (nodes es : List ℕ) (members others : Objects) (w : List Token) → length nodes ≡ count members → after es others (w ++ tokens_all members) → Copies (length nodes) after (nodes ++ es) (joined members others) w
copies-all after [] es none others w e h = subst (after es others) (append-nil w) h
copies-all after [] es (more o os) others w e h = absurd (let f : length {A = ℕ} [] ≡ 0 = refl in omega arith)
copies-all after (x ∷ nodes) es none others w e h = absurd (let f : length (x ∷ nodes) ≡ suc (length nodes) = refl in omega arith)
copies-all after (x ∷ nodes) es (more o os) others w e h =
    copies-all after nodes es os others (w ++ tokens_of o) (let f : length (x ∷ nodes) ≡ suc (length nodes) = refl in omega arith)
    (subst (after es others) (sym (append_assoc w (tokens_of o) (tokens_all os))) h)

-- The first of some objects is written by its visit and by what stands below it.
pub record CopiesOn (s : Spec) (v : Visit) (k n : ℕ) (after : ToCome) (fs : List ℕ) (us : List Token) (w : List Token) : Type 0 where
  pub objects : Objects
  pub waits : AreWaiting s fs objects us
  pub copies : Copies k (Copies n after) fs objects (w ++ token_at v)

-- Copying the first of n + 1 waiting objects goes on, past its visit, with its token written and
-- the k objects below it to be copied before the other n.
pub copies-on : (s : Spec) (e : ℕ) (es : List ℕ) (os : Objects) (ts : List Token) (v : Visit) (fs : List ℕ) (us : List Token) (k n : ℕ) (after : ToCome) (w : List Token) → k ≡ length (nodes_below s e v) → Shows s e es os ts v fs us → Copies (suc n) after (e ∷ es) os w → CopiesOn s v k n after fs us w
copies-on s e es os ts v fs us k n after w many shows h =
    let b = below-shown s e es os ts v fs us shows in
    let one : Copies n after es b.others (w ++ tokens_of b.object) = subst (λ z. Copies (suc n) after (e ∷ es) z w) b.first h in
    let rest : Copies n after es b.others ((w ++ token_at v) ++ tokens_all b.members) = subst (Copies n after es b.others) (ap (λ z. w ++ z) b.spelled ∙ sym (append_assoc w (token_at v) (tokens_all b.members))) one in
    record {
      objects = joined b.members b.others;
      waits = b.waits;
      copies = subst (λ z. Copies k (Copies n after) z (joined b.members b.others) (w ++ token_at v)) (sym b.put)
          (subst (λ z. Copies z (Copies n after) (b.nodes ++ es) (joined b.members b.others) (w ++ token_at v)) (b.many ∙ sym many)
          (copies-all (Copies n after) b.nodes es b.members b.others (w ++ token_at v) b.each rest));
    }
