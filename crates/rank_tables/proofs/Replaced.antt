-- A task is replaced by those of its object's parts.
use Rattle.std.proofs.Common.{◌≡◌, ℕ, zero, suc, ◌+◌, ◌-◌, ◌<◌, ◌≤◌, List, [], ◌∷◌, ◌++◌, map, length, replicate, take, Some, arith, refl, sym, ◌∙◌, ap, subst, append_assoc}
use Rattle.std.specs.Prelude.{slice_get, sum_by}
use Rattle.std.specs.List.{AllByRecursion}
use Rattle.std.proofs.lemmas.List.{append-nil}
use Rattle.std.proofs.lemmas.Option.{slice_get_within}
use Rattle.bz_model.specs.Spec.{Spec, Node, node_at, body_of}
use Rattle.bz_model.specs.Object.{Object, Objects, none, more, count}
use Rattle.bz_model.specs.Measures.{size}
use Rattle.object_store.specs.Tokens.{tokens_of, tokens_all}
use Rattle.object_store.specs.declared.token.Token.{Token}
use Rattle.object_store.specs.declared.token.Token.TheVariants as token
use Rattle.class_system.specs.Views.{number}
use Rattle.class_system.specs.declared.ids.ExprId.{ExprId}
use Rattle.rank_tables.specs.Places.{IsPlace}
use Rattle.rank_tables.specs.Places as place
use Rattle.rank_tables.specs.TableRule.{one_at}
use Rattle.rank_tables.specs.Grids.{Cells, number_at}
use Rattle.rank_tables.specs.Unranking.{AreCountedGrids, IsFound, AreTupleTasks, AreListTasks, Fulfils, FulfilEach, IsTask, IsReplaced, told_of, node_of_task}
use Rattle.rank_tables.specs.Unranking.FulfilEach.{done, next}
use Rattle.rank_tables.specs.Visits.{TellPlaces, AreTasks}
use Rattle.rank_tables.specs.declared.tasks.Task.{Task}
use Rattle.rank_tables.specs.declared.splits.Found.{Found}
use Rattle.rank_tables.proofs.Parting.{tasks-whole}
use Rattle.rank_tables.proofs.Suffixes.{mapped-length}
use Rattle.rank_tables.proofs.Visited.{sizes-told}

one-below : (a n r : ℕ) → r < one_at a n → (n ≡ a) × (r ≡ 0)
one-below zero zero r lt = (refl, omega arith)
one-below zero (suc n) r lt = absurd (omega arith)
one-below (suc a) zero r lt = absurd (omega arith)
one-below (suc a) (suc n) r lt = let k = one-below a n r lt in (ap suc k.0, k.1)

-- The objects that fulfil tasks one after the other.
pub record HasObjects (s : Spec) (t : ℕ → ℕ → ℕ) (tasks : List Task) (tokens : List Token) : Type 0 where
  pub objects : Objects
  pub told : TellPlaces s t (map node_of_task tasks) objects (map told_of tasks)
  pub spelled : tokens_all objects ≡ tokens
  pub counted : count objects ≡ length tasks

pub objects-there : (s : Spec) (t : ℕ → ℕ → ℕ) (tasks : List Task) (tokens : List Token) → FulfilEach s t tasks tokens → HasObjects s t tasks tokens
objects-there s t _ _ done = record { objects = none; told = tt; spelled = refl; counted = refl }
objects-there s t _ _ (next {task = task} {tasks = tasks} {tokens = tokens} first rest e f each) =
    let k = objects-there s t tasks rest each in
    record {
      objects = more f.object k.objects;
      told = (sym f.sized, f.place, k.told);
      spelled = ap (λ z. z ++ tokens_all k.objects) f.spelled ∙ ap (λ z. first ++ z) k.spelled ∙ sym e;
      counted = ap suc k.counted;
    }

pub fulfil-one : (s : Spec) (t : ℕ → ℕ → ℕ) (task : Task) (tokens : List Token) → FulfilEach s t (task ∷ []) tokens → Fulfils s t task tokens
fulfil-one s t task tokens (next first rest e f done) = subst (Fulfils s t task) (sym (e ∙ append-nil first)) f

-- The tasks of parts that fit can be fulfilled.
pub tasks-can : (t : ℕ → ℕ → ℕ) (nodes bound n : ℕ) (es : List ℕ) (tasks : List Task) → map node_of_task tasks ≡ es → AreTasks t es n (map told_of tasks) → AllByRecursion (λ e. e < nodes) es → n < bound → AllByRecursion (IsTask nodes bound t) tasks
tasks-can t nodes bound n [] [] is h below fits = tt
tasks-can t nodes bound n [] (k ∷ ks) is h below fits = absurd (cc)
tasks-can t nodes bound n (e ∷ es) [] is h below fits = elim h [ ]
tasks-can t nodes bound n (e ∷ es) (k ∷ ks) is h below fits =
    let same : k.node.0 ≡ e = cc in
    let others : map node_of_task ks ≡ es = cc in
    let inside : e < nodes = below.0 in
    let le : k.size ≤ n = h.0 in
    (record { node = omega arith; fits = omega arith; small = subst (λ z. k.number < t z k.size) (sym same) h.1 }, tasks-can t nodes bound (n - k.size) es ks others h.2 below.1 (omega arith))

pub all-replicate : (P : ℕ → Type 0) (x k : ℕ) → P x → AllByRecursion P (replicate k x)
all-replicate P x zero p = tt
all-replicate P x (suc k) p = (p, all-replicate P x k p)

none-fulfilled : (s : Spec) (t : ℕ → ℕ → ℕ) (ts : List Token) → FulfilEach s t [] ts → ts ≡ []
none-fulfilled s t _ done = refl

module _ (s : Spec) (t : ℕ → ℕ → ℕ) (bound : ℕ) (task : Task) (can : IsTask (length s.nodes) bound t task) (before : List Task) (old : List Token) where
  -- a leaf has one object
  leaf-replaced : (a : ℕ) (o : Object) (x : Token) (after : List Task) (new : List Token) → t task.node.0 task.size ≡ one_at a task.size → size o ≡ a → tokens_of o ≡ x ∷ [] → IsPlace s t task.node.0 o 0 → after ≡ before → new ≡ old ++ x ∷ [] → IsReplaced s bound t task before after old new
  leaf-replaced a o x after new row sized spelled at_place put written =
      let k = one-below a task.size task.number (let lt = can.small in omega arith) in
      record {
        tasks = [];
        tokens = x ∷ [];
        put = put;
        written = written;
        can = tt;
        made = λ ts h. record { object = o; place = subst (IsPlace s t task.node.0 o) (sym k.1) at_place; sized = sized ∙ sym k.0; spelled = spelled ∙ ap (λ z. x ∷ z) (sym (none-fulfilled s t ts h)) };
      }

  pub empty-replaced : (word : List ℕ) (after : List Task) (new : List Token) → node_at s task.node.0 ≡ Some (Node.Empty word) → t task.node.0 task.size ≡ one_at 0 task.size → after ≡ before → new ≡ old ++ token.Unit ∷ [] → IsReplaced s bound t task before after old new
  empty-replaced word after new at row put written = leaf-replaced 0 Object.Unit_ token.Unit after new row refl refl (place.IsPlace.empty word at) put written

  pub atom-replaced : (word : List ℕ) (after : List Task) (new : List Token) → node_at s task.node.0 ≡ Some (Node.Atom word) → t task.node.0 task.size ≡ one_at 1 task.size → after ≡ before → new ≡ old ++ token.Dot ∷ [] → IsReplaced s bound t task before after old new
  atom-replaced word after new at row put written = leaf-replaced 1 Object.Dot token.Dot after new row refl refl (place.IsPlace.atom word at) put written

  pub class-replaced : (c : ℕ) (of_body : Task) (after : List Task) (new : List Token) → node_at s task.node.0 ≡ Some (Node.Class c) → body_of s c ≡ Some of_body.node.0 → of_body.node.0 < length s.nodes → of_body.size ≡ task.size → of_body.number ≡ task.number → t task.node.0 task.size ≡ t of_body.node.0 task.size → after ≡ of_body ∷ before → new ≡ old → IsReplaced s bound t task before after old new
  class-replaced c of_body after new at is inside same_size same_number row put written = record {
    tasks = of_body ∷ [];
    tokens = [];
    put = put;
    written = written ∙ sym (append-nil old);
    can = (record { node = inside; fits = let f = can.fits in omega arith; small = subst (λ z. z < t of_body.node.0 of_body.size) (sym same_number) (subst (λ z. task.number < t of_body.node.0 z) (sym same_size) (let lt = can.small in omega arith)) }, tt);
    made = λ ts h. (let f = fulfil-one s t of_body ts h in record { object = f.object; place = place.IsPlace.class c of_body.node.0 at is (subst (IsPlace s t of_body.node.0 f.object) same_number f.place); sized = f.sized ∙ same_size; spelled = f.spelled });
  }

  pub union-replaced : (parts : List ℕ) (found : Found) (of_part : Task) (after : List Task) (new : List Token) → node_at s task.node.0 ≡ Some (Node.Union parts) → IsFound (λ p. t p task.size) parts task.number found → slice_get parts found.option ≡ Some of_part.node.0 → of_part.node.0 < length s.nodes → of_part.size ≡ task.size → of_part.number ≡ found.number → after ≡ of_part ∷ before → new ≡ old ++ token.Pick found.option ∷ [] → IsReplaced s bound t task before after old new
  union-replaced parts found of_part after new at k is inside same_size same_number put written = record {
    tasks = of_part ∷ [];
    tokens = token.Pick found.option ∷ [];
    put = put;
    written = written;
    can = (record { node = inside; fits = let f = can.fits in omega arith; small = subst (λ z. z < t of_part.node.0 of_part.size) (sym same_number) (subst (λ z. found.number < t of_part.node.0 z) (sym same_size) (subst (λ z. found.number < t z task.size) same_part k.small)) }, tt);
    made = λ ts h. (let f = fulfil-one s t of_part ts h in record {
      object = Object.Pick found.option f.object;
      place = place.IsPlace.union parts found.option of_part.node.0 of_part.number at is f.place
          (k.is ∙ ap (λ z. sum_by (λ p. t p task.size) (take found.option parts) + z) (sym same_number) ∙ ap (λ n. sum_by (λ p. t p n) (take found.option parts) + of_part.number) (sym (f.sized ∙ same_size)));
      sized = f.sized ∙ same_size;
      spelled = ap (λ z. token.Pick found.option ∷ z) f.spelled;
    });
  }
    where
      same_part : k.part ≡ of_part.node.0
      same_part = let both : Some k.part ≡ Some of_part.node.0 = sym k.is_part ∙ is in cc

  pub tuple-replaced : (parts : List ℕ) (tasks after : List Task) (new : List Token) → node_at s task.node.0 ≡ Some (Node.Product parts) → AreTupleTasks s t parts task.size task.number tasks → AllByRecursion (λ e. e < length s.nodes) parts → after ≡ tasks ++ before → new ≡ old → IsReplaced s bound t task before after old new
  tuple-replaced parts tasks after new at k below put written = record {
    tasks = tasks;
    tokens = [];
    put = put;
    written = written ∙ sym (append-nil old);
    can = tasks-can t (length s.nodes) bound task.size parts tasks k.nodes k.fit below can.fits;
    made = λ ts h. (let os = objects-there s t tasks ts h in
        let told : TellPlaces s t parts os.objects (map told_of tasks) = subst (λ es. TellPlaces s t es os.objects (map told_of tasks)) k.nodes os.told in
        record { object = Object.Tuple os.objects; place = place.IsPlace.product parts at (k.placed os.objects told); sized = sym (sizes-told s t parts os.objects (map told_of tasks) told) ∙ tasks-whole t parts task.size (map told_of tasks) k.fit; spelled = os.spelled });
  }

  pub list-replaced : (part : ℕ) (tasks after : List Task) (new : List Token) → node_at s task.node.0 ≡ Some (Node.Seq part) → AreListTasks s t task.node.0 part task.size task.number tasks → part < length s.nodes → after ≡ tasks ++ before → new ≡ old ++ token.Count (length tasks) ∷ [] → IsReplaced s bound t task before after old new
  list-replaced part tasks after new at k inside put written = record {
    tasks = tasks;
    tokens = token.Count (length tasks) ∷ [];
    put = put;
    written = written;
    can = tasks-can t (length s.nodes) bound task.size (replicate (length tasks) part) tasks k.nodes k.fit (all-replicate (λ e. e < length s.nodes) part (length tasks) inside) can.fits;
    made = λ ts h. (let os = objects-there s t tasks ts h in
        let told : TellPlaces s t (replicate (length tasks) part) os.objects (map told_of tasks) = subst (λ es. TellPlaces s t es os.objects (map told_of tasks)) k.nodes os.told in
        record { object = Object.SeqOf os.objects; place = place.IsPlace.sequence part at (k.placed os.objects told); sized = sym (sizes-told s t (replicate (length tasks) part) os.objects (map told_of tasks) told) ∙ tasks-whole t (replicate (length tasks) part) task.size (map told_of tasks) k.fit; spelled = ap (λ z. token.Count z ∷ tokens_all os.objects) os.counted ∙ ap (λ z. token.Count (length tasks) ∷ z) os.spelled });
  }

-- Whatever fulfils the tasks that wait makes up, behind the tokens so far, what fulfils the first task.
pub record IsUnderWay (s : Spec) (bound : ℕ) (t : ℕ → ℕ → ℕ) (root : Task) (tasks : List Task) (tokens : List Token) : Type 0 where
  pub can : AllByRecursion (IsTask (length s.nodes) bound t) tasks
  pub makes : (ts : List Token) → FulfilEach s t tasks ts → Fulfils s t root (tokens ++ ts)

pub under_way-start : (s : Spec) (bound : ℕ) (t : ℕ → ℕ → ℕ) (root : Task) → IsTask (length s.nodes) bound t root → IsUnderWay s bound t root (root ∷ []) []
under_way-start s bound t root can = record { can = (can, tt); makes = λ ts h. fulfil-one s t root ts h }

record Divided (s : Spec) (t : ℕ → ℕ → ℕ) (tasks others : List Task) (tokens : List Token) : Type 0 where
  first : List Token
  rest : List Token
  is : tokens ≡ first ++ rest
  here : FulfilEach s t tasks first
  there : FulfilEach s t others rest

divided : (s : Spec) (t : ℕ → ℕ → ℕ) (tasks others : List Task) (tokens : List Token) → FulfilEach s t (tasks ++ others) tokens → Divided s t tasks others tokens
divided s t [] others tokens h = record { first = []; rest = tokens; is = refl; here = done; there = h }
divided s t (k ∷ ks) others tokens (next first rest e f each) =
    let d = divided s t ks others rest each in
    record { first = first ++ d.first; rest = d.rest; is = e ∙ ap (λ z. first ++ z) d.is ∙ sym (append_assoc first d.first d.rest); here = next first d.first refl f d.here; there = d.there }

all-append : (P : Task → Type 0) (xs ys : List Task) → AllByRecursion P xs → AllByRecursion P ys → AllByRecursion P (xs ++ ys)
all-append P [] ys h k = k
all-append P (x ∷ xs) ys h k = (h.0, all-append P xs ys h.1 k)

-- A task that was replaced.
pub under_way-on : (s : Spec) (bound : ℕ) (t : ℕ → ℕ → ℕ) (root task : Task) (before after : List Task) (old new : List Token) → IsUnderWay s bound t root (task ∷ before) old → IsReplaced s bound t task before after old new → IsUnderWay s bound t root after new
under_way-on s bound t root task before after old new from k = record {
  can = subst (AllByRecursion (IsTask (length s.nodes) bound t)) (sym k.put) (all-append (IsTask (length s.nodes) bound t) k.tasks before k.can (from.can).1);
  makes = λ ts h. onward ts (divided s t k.tasks before ts (subst (λ z. FulfilEach s t z ts) k.put h));
}
  where
    onward : (ts : List Token) → Divided s t k.tasks before ts → Fulfils s t root (new ++ ts)
    onward ts d = subst (Fulfils s t root) (same d.is) (from.makes ((k.tokens ++ d.first) ++ d.rest) (next (k.tokens ++ d.first) d.rest refl (k.made d.first d.here) d.there))
      where
        same : ts ≡ d.first ++ d.rest → old ++ ((k.tokens ++ d.first) ++ d.rest) ≡ new ++ ts
        same e = ap (λ z. old ++ z) (append_assoc k.tokens d.first d.rest) ∙ sym (append_assoc old k.tokens (d.first ++ d.rest)) ∙ ap (λ z. (old ++ k.tokens) ++ z) (sym e) ∙ ap (λ z. z ++ ts) (sym k.written)

-- When no task waits any more, the tokens written are those of an object that fulfils the first
-- task.
pub under_way-end : (s : Spec) (bound : ℕ) (t : ℕ → ℕ → ℕ) (root : Task) (tasks : List Task) (tokens : List Token) → tasks ≡ [] → IsUnderWay s bound t root tasks tokens → Fulfils s t root tokens
under_way-end s bound t root tasks tokens is h = subst (Fulfils s t root) (append-nil tokens) (h.makes [] (subst (λ z. FulfilEach s t z []) (sym is) done))

-- The part in which a union's task lies.
pub union-found : (s : Spec) (counts tails : Cells) (task : Task) (parts options : List ExprId) (found : Found) → AreCountedGrids s counts tails → IsTask (length s.nodes) counts.sizes (number_at counts) task → node_at s task.node.0 ≡ Some (Node.Union (map number parts)) → options ≡ parts
    → (task.number < sum_by (λ p. number_at counts p task.size) (map number options) → IsFound (λ p. number_at counts p task.size) (map number options) task.number found)
    → IsFound (λ p. number_at counts p task.size) (map number parts) task.number found
union-found s counts tails task parts options found counted can at same h =
    subst (λ z. IsFound (λ p. number_at counts p task.size) (map number z) task.number found) same
    (h (subst (λ z. task.number < sum_by (λ p. number_at counts p task.size) (map number z)) (sym same)
    (let row = counted.rows task.node.0 task.size (Node.Union (map number parts)) can.fits at in let lt = can.small in omega arith)))

-- Where a number is found in one of a union's parts, the option found is below the number of
-- options.
pub found-inside : (f : ℕ → ℕ) (parts options : List ExprId) (r : ℕ) (found : Found) → options ≡ parts → IsFound f (map number parts) r found → found.option < length options
found-inside f parts options r found same k =
    let lt = slice_get_within (map number parts) found.option k.part k.is_part in
    let long = mapped-length parts in
    let as_long : length options ≡ length parts = ap length same in
    omega arith
