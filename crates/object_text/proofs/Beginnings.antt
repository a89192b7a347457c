-- What can be read where an object of a node comes, by the kind of the node.
use Rattle.std.proofs.Common.{◌≡◌, ℕ, zero, suc, ◌-◌, ◌≤◌, List, [], ◌∷◌, ◌++◌, length, arith, refl, sym, ◌∙◌, ap, subst, append_assoc, append-nil, Option, Some, replicate, decimal, codes}
use Rattle.std.specs.Prelude.{slice_get}
use Rattle.std.specs.List.{AllByRecursion, join_with_byte}
use Rattle.std.proofs.lemmas.Option.{slice_get_within}
use Rattle.bz_model.specs.Spec.{Spec, Mode, Node, Range, node_at, range_at, body_of, IsInRange}
use Rattle.bz_model.specs.Object.{Object, Objects, none, more, count}
use Rattle.bz_model.specs.Object.Object.{Unit_, Dot, Pick, Tuple}
use Rattle.bz_model.specs.ObjectText.{HasLabels, leaf_text, label_text}
use Rattle.bz_laws.proofs.Readings.{neutral-labels}
use Rattle.object_store.specs.declared.token.Token.TheVariants as token
use Rattle.object_text.specs.declared.parsed.Kind.{Kind}
use Rattle.object_text.specs.Taken.{Taken, with_token, with_label, with_object, opened, parted, closed}
use Rattle.object_text.specs.Scanning.{Word, Number}
use Rattle.object_text.specs.Expected.{opener, closer, list_node, ReadsObject, ReadsEach}
use Rattle.object_text.proofs.ObjectTexts.{TextBy, AreTexts, spaces, join-first, list_object, known-text, text-known, texts-labels, class-in, class-out, option-in, option-out, tuple-in, tuple-out, list-in, list-out}
use Rattle.object_text.proofs.TakenParts.{through, same, through-tuple, through-list, with-neutral, with-atom, with-labelled, with-pick}
use Rattle.object_text.proofs.Chains.{each-in, each-out, count-texts}

-- the text of parts with a closing byte behind it
closing : (texts : List ℕ) (b : ℕ) (rest : List ℕ) → (texts ++ b ∷ []) ++ rest ≡ texts ++ b ∷ rest
closing [] b rest = refl
closing (t ∷ texts) b rest = ap (λ u. t ∷ u) (closing texts b rest)

-- Behind an option and its full stop an object of the part comes.
pub record PartReads (s : Spec) (Later : List ℕ → Taken → Type 0) (taken : Taken) (parts : List ℕ) (option : ℕ) (rest : List ℕ) : Type 0 where
  pub part : ℕ
  pub is_part : slice_get parts option ≡ Some part
  pub reads : ReadsObject s part Later rest (with_token taken (token.Pick option))

-- A closing parenthesis comes.
abbrev pub Closing : (List ℕ → Taken → Type 0) → List ℕ → Taken → Type 0
Closing Later rest taken = Word (41 ∷ []) (λ rest. Later rest taken) rest

-- The end of a list of n parts comes.
abbrev pub Ends : (List ℕ → Taken → Type 0) → Kind → ℕ → List ℕ → Taken → Type 0
Ends Later kind n rest taken = Word (closer kind ∷ []) (λ rest. Later rest (closed n taken)) rest

-- Exactly n parts of a list come, and its end.
abbrev pub ReadsSome : Spec → (List ℕ → Taken → Type 0) → Kind → ℕ → ℕ → List ℕ → Taken → Type 0
ReadsSome s Later kind part zero rest taken = Ends Later kind 0 rest taken
ReadsSome s Later kind part (suc n) rest taken = ReadsObject s part (λ rest taken. ReadsEach s parted (Ends Later kind (suc n)) (replicate n part) rest (parted taken)) rest taken

-- As many parts come as a range allows.
pub record ListReads (s : Spec) (Later : List ℕ → Taken → Type 0) (taken : Taken) (kind : Kind) (part : ℕ) (range : Option Range) (rest : List ℕ) : Type 0 where
  pub parts : ℕ
  pub in_range : IsInRange parts range
  pub reads : ReadsSome s Later kind part parts rest (opened kind taken)

module _ (s : Spec) (e : ℕ) (Later : List ℕ → Taken → Type 0) (text : List ℕ) (taken : Taken) where
  abbrev Here : Type 0
  Here = ReadsObject s e Later text taken

  -- A class comes where its body does.
  pub class-reads : (c body : ℕ) → node_at s e ≡ Some (Node.Class c) → body_of s c ≡ Some body → ReadsObject s body Later text taken → Here
  class-reads c body at b h = record { object = h.object; labels = h.labels; own = h.own; rest = h.rest; is_text = class-in s e c body at b h.own h.object h.labels h.is_text; split = h.split; later = h.later }

  pub reads-class : (c body : ℕ) → node_at s e ≡ Some (Node.Class c) → body_of s c ≡ Some body → Here → ReadsObject s body Later text taken
  reads-class c body at b h = record { object = h.object; labels = h.labels; own = h.own; rest = h.rest; is_text = class-out s e c body at b h.own h.object h.labels h.is_text; split = h.split; later = h.later }

  -- A neutral object.
  pub neutral-reads : (word : List ℕ) → node_at s e ≡ Some (Node.Empty word) → Word (leaf_text (codes "E") word) (λ rest. Later rest (with_token taken token.Unit)) text → Here
  neutral-reads word at h = record {
    object = Unit_;
    labels = [];
    own = leaf_text (codes "E") word;
    rest = h.rest;
    is_text = text-known s e (Node.Empty word) at (leaf_text (codes "E") word) Unit_ [] (record { height = 0; has = tt; labelled = none-of s.mode; spelled = refl });
    split = h.split;
    later = subst (Later h.rest) (sym (with-neutral taken)) h.later;
  }
    where
      none-of : (mode : Mode) → HasLabels mode Unit_ []
      none-of Mode.Unlabelled = refl
      none-of Mode.Labelled = (refl, tt)

  pub reads-neutral : (word : List ℕ) → node_at s e ≡ Some (Node.Empty word) → Here → Word (leaf_text (codes "E") word) (λ rest. Later rest (with_token taken token.Unit)) text
  reads-neutral word at h = go h.object h.labels (known-text s e (Node.Empty word) at h.own h.object h.labels h.is_text) h.later
    where
      go : (o : Object) (l : List ℕ) → TextBy s (Node.Empty word) (range_at s e) h.own o l → Later h.rest (with_object taken o l) → Word (leaf_text (codes "E") word) (λ rest. Later rest (with_token taken token.Unit)) text
      go Unit_ l k later = record {
        rest = h.rest;
        split = h.split ∙ ap (λ t. t ++ h.rest) k.spelled;
        later = subst (Later h.rest) (ap (λ m. with_object taken Unit_ m) (neutral-labels s.mode l k.labelled) ∙ with-neutral taken) later;
      }
      go _ l k later = elim k.has [ ]

  -- An atom in unlabelled mode.
  pub atom-reads : (word : List ℕ) → node_at s e ≡ Some (Node.Atom word) → s.mode ≡ Mode.Unlabelled → Word (leaf_text (codes "Z") word) (λ rest. Later rest (with_token taken token.Dot)) text → Here
  atom-reads word at m h = record {
    object = Dot;
    labels = [];
    own = leaf_text (codes "Z") word;
    rest = h.rest;
    is_text = text-known s e (Node.Atom word) at (leaf_text (codes "Z") word) Dot [] (record {
      height = 0;
      has = tt;
      labelled = subst (λ mode. HasLabels mode Dot []) (sym m) refl;
      spelled = sym (append-nil (leaf_text (codes "Z") word)) ∙ ap (λ mode. leaf_text (codes "Z") word ++ label_text mode []) (sym m);
    });
    split = h.split;
    later = subst (Later h.rest) (sym (with-atom taken)) h.later;
  }

  pub reads-atom : (word : List ℕ) → node_at s e ≡ Some (Node.Atom word) → s.mode ≡ Mode.Unlabelled → Here → Word (leaf_text (codes "Z") word) (λ rest. Later rest (with_token taken token.Dot)) text
  reads-atom word at m h = go h.object h.labels (known-text s e (Node.Atom word) at h.own h.object h.labels h.is_text) h.later
    where
      go : (o : Object) (l : List ℕ) → TextBy s (Node.Atom word) (range_at s e) h.own o l → Later h.rest (with_object taken o l) → Word (leaf_text (codes "Z") word) (λ rest. Later rest (with_token taken token.Dot)) text
      go Dot l k later =
          let bare : l ≡ [] = subst (λ mode. HasLabels mode Dot l) m k.labelled in
          record {
            rest = h.rest;
            split = h.split ∙ ap (λ t. t ++ h.rest) (k.spelled ∙ ap (λ mode. leaf_text (codes "Z") word ++ label_text mode l) m ∙ append-nil (leaf_text (codes "Z") word));
            later = subst (Later h.rest) (ap (λ n. with_object taken Dot n) bare ∙ with-atom taken) later;
          }
      go _ l k later = elim k.has [ ]

  -- An atom in labelled mode.
  abbrev pub Labelled : List ℕ → Type 0
  Labelled word = Word (leaf_text (codes "Z") word) (λ sign. Word (35 ∷ []) (λ digits. Number 1 1000000 (λ label rest. Later rest (with_label (with_token taken token.Dot) label)) digits) sign) text

  pub labelled-reads : (word : List ℕ) → node_at s e ≡ Some (Node.Atom word) → s.mode ≡ Mode.Labelled → Labelled word → Here
  labelled-reads word at m h =
      let n = h.later.later in
      let label : ℕ = n.number in
      record {
        object = Dot;
        labels = n.number ∷ [];
        own = leaf_text (codes "Z") word ++ (35 ∷ decimal n.number);
        rest = n.rest;
        is_text = text-known s e (Node.Atom word) at (leaf_text (codes "Z") word ++ (35 ∷ decimal n.number)) Dot (n.number ∷ []) (record {
          height = 0;
          has = tt;
          labelled = subst (λ mode. HasLabels mode Dot (n.number ∷ [])) (sym m) (refl, ((n.least, n.greatest), tt));
          spelled = ap (λ mode. leaf_text (codes "Z") word ++ label_text mode (n.number ∷ [])) (sym m);
        });
        split = h.split ∙ ap (λ t. leaf_text (codes "Z") word ++ t) (h.later.split ∙ ap (λ t. 35 ∷ t) n.split) ∙ sym (append_assoc (leaf_text (codes "Z") word) (35 ∷ decimal n.number) n.rest);
        later = subst (Later n.rest) (sym (with-labelled taken n.number)) n.later;
      }

  pub reads-labelled : (word : List ℕ) → node_at s e ≡ Some (Node.Atom word) → s.mode ≡ Mode.Labelled → Here → Labelled word
  reads-labelled word at m h = go h.object h.labels (known-text s e (Node.Atom word) at h.own h.object h.labels h.is_text) h.later
    where
      one : (l : List ℕ) → (length l ≡ 1) × AllByRecursion (λ label. (1 ≤ label) × (label ≤ 1000000)) l → h.own ≡ leaf_text (codes "Z") word ++ label_text Mode.Labelled l → Later h.rest (with_object taken Dot l) → Labelled word
      one [] x e later = absurd (let n = x.0 in omega arith)
      one (a ∷ b ∷ l) x e later = absurd (let n = x.0 in omega arith)
      one (a ∷ []) x e later = record {
        rest = 35 ∷ (decimal a ++ h.rest);
        split = h.split ∙ ap (λ t. t ++ h.rest) e ∙ append_assoc (leaf_text (codes "Z") word) (35 ∷ decimal a) h.rest;
        later = record {
          rest = decimal a ++ h.rest;
          split = refl;
          later = record { number = a; least = x.1.0.0; greatest = x.1.0.1; rest = h.rest; split = refl; later = subst (Later h.rest) (with-labelled taken a) later };
        };
      }

      go : (o : Object) (l : List ℕ) → TextBy s (Node.Atom word) (range_at s e) h.own o l → Later h.rest (with_object taken o l) → Labelled word
      go Dot l k later = one l (subst (λ mode. HasLabels mode Dot l) m k.labelled) (k.spelled ∙ ap (λ mode. leaf_text (codes "Z") word ++ label_text mode l) m) later
      go _ l k later = elim k.has [ ]

  -- A union's object: its option, a full stop, and an object of that part.
  abbrev pub Optional : List ℕ → Type 0
  Optional parts = Number 0 (length parts - 1) (λ option dot. Word (46 ∷ []) (PartReads s Later taken parts option) dot) text

  pub union-reads : (parts : List ℕ) → node_at s e ≡ Some (Node.Union parts) → Optional parts → Here
  union-reads parts at h =
      let w = h.later in
      let p = w.later in
      let r = p.reads in
      record {
        object = Pick h.number r.object;
        labels = r.labels;
        own = decimal h.number ++ 46 ∷ r.own;
        rest = r.rest;
        is_text = text-known s e (Node.Union parts) at (decimal h.number ++ 46 ∷ r.own) (Pick h.number r.object) r.labels (option-in s parts (range_at s e) (decimal h.number ++ 46 ∷ r.own) h.number p.part r.own r.object r.labels p.is_part r.is_text refl);
        split = h.split ∙ ap (λ t. decimal h.number ++ t) (w.split ∙ ap (λ t. 46 ∷ t) r.split) ∙ sym (append_assoc (decimal h.number) (46 ∷ r.own) r.rest);
        later = subst (Later r.rest) (with-pick taken h.number r.object r.labels) r.later;
      }

  pub reads-union : (parts : List ℕ) → node_at s e ≡ Some (Node.Union parts) → Here → Optional parts
  reads-union parts at h =
      let k = option-out s parts (range_at s e) h.own h.object h.labels (known-text s e (Node.Union parts) at h.own h.object h.labels h.is_text) in
      let within = slice_get_within parts k.option k.part k.is_part in
      record {
        number = k.option;
        least = omega arith;
        greatest = omega arith;
        rest = 46 ∷ (k.own ++ h.rest);
        split = h.split ∙ ap (λ t. t ++ h.rest) k.spelled ∙ append_assoc (decimal k.option) (46 ∷ k.own) h.rest;
        later = record {
          rest = k.own ++ h.rest;
          split = refl;
          later = record {
            part = k.part;
            is_part = k.is_part;
            reads = record { object = k.object; labels = h.labels; own = k.own; rest = h.rest; is_text = k.is_text; split = refl; later = subst (Later h.rest) (ap (λ o. with_object taken o h.labels) k.is_pick ∙ sym (with-pick taken k.option k.object h.labels)) h.later };
          };
        };
      }

  -- A product's object: its parts between parentheses.
  abbrev pub Tuples : ℕ → List ℕ → Type 0
  Tuples part parts = Word (40 ∷ []) (λ rest. ReadsObject s part (λ rest taken. ReadsEach s same (Closing Later) parts rest taken) rest taken) text

  pub product-reads : (part : ℕ) (parts : List ℕ) → node_at s e ≡ Some (Node.Product (part ∷ parts)) → Tuples part parts → Here
  product-reads part parts at h =
      let first = h.later in
      let r = each-out s same (Closing Later) (part ∷ parts) (32 ∷ h.rest) taken (record { rest = h.rest; split = refl; later = first }) in
      go r.texts r.objects r.labels r.each r.split r.later
    where
      go : (texts : List (List ℕ)) (os : Objects) (l : List ℕ) → AreTexts s (part ∷ parts) texts os l → {rest : List ℕ} → 32 ∷ h.rest ≡ spaces texts ++ rest → Closing Later rest (through same taken os l) → Here
      go _ os l (AreTexts.one_more {text = t} {texts = texts} {o = o} {os = os'} first each) {rest} split k =
          let spelled : List ℕ = 40 ∷ (join_with_byte 32 (t ∷ texts) ++ 41 ∷ []) in
          let all : AreTexts s (part ∷ parts) (t ∷ texts) (more o os') l = AreTexts.one_more first each in
          let behind : h.rest ≡ (t ++ spaces texts) ++ rest = tail-same split in
          record {
            object = Tuple (more o os');
            labels = l;
            own = 40 ∷ (join_with_byte 32 (t ∷ texts) ++ 41 ∷ []);
            rest = k.rest;
            is_text = text-known s e (Node.Product (part ∷ parts)) at (40 ∷ (join_with_byte 32 (t ∷ texts) ++ 41 ∷ [])) (Tuple (more o os')) l (tuple-in s (part ∷ parts) (range_at s e) (40 ∷ (join_with_byte 32 (t ∷ texts) ++ 41 ∷ [])) (more o os') (t ∷ texts) l all refl);
            split = h.split ∙ ap (λ u. 40 ∷ u) (behind ∙ ap (λ u. (t ++ spaces texts) ++ u) k.split ∙ ap (λ u. u ++ 41 ∷ k.rest) (sym (join-first t texts)) ∙ sym (closing (join_with_byte 32 (t ∷ texts)) 41 k.rest));
            later = subst (Later k.rest) (through-tuple s.mode (more o os') l taken (texts-labels s (part ∷ parts) (t ∷ texts) (more o os') l all)) k.later;
          }
        where
          tail-same : {xs ys : List ℕ} → 32 ∷ xs ≡ 32 ∷ ys → xs ≡ ys
          tail-same q = cc

  pub reads-product : (part : ℕ) (parts : List ℕ) → node_at s e ≡ Some (Node.Product (part ∷ parts)) → Here → Tuples part parts
  reads-product part parts at h =
      let k = tuple-out s (part ∷ parts) (range_at s e) h.own h.object h.labels (known-text s e (Node.Product (part ∷ parts)) at h.own h.object h.labels h.is_text) in
      go k.texts k.objects h.labels k.each k.spelled (subst (λ o. Later h.rest (with_object taken o h.labels)) k.is_tuple h.later)
    where
      go : (texts : List (List ℕ)) (os : Objects) (l : List ℕ) → AreTexts s (part ∷ parts) texts os l → h.own ≡ 40 ∷ (join_with_byte 32 texts ++ 41 ∷ []) → Later h.rest (with_object taken (Tuple os) l) → Tuples part parts
      go _ _ _ (AreTexts.one_more {text = t} {texts = texts} {o = o} {os = os'} {l = l} first each) spelled k =
          let all : AreTexts s (part ∷ parts) (t ∷ texts) (more o os') l = AreTexts.one_more first each in
          let end : Closing Later (41 ∷ h.rest) (through same taken (more o os') l) = record { rest = h.rest; split = refl; later = subst (Later h.rest) (sym (through-tuple s.mode (more o os') l taken (texts-labels s (part ∷ parts) (t ∷ texts) (more o os') l all))) k } in
          let r = each-in s same (Closing Later) (part ∷ parts) (t ∷ texts) (more o os') l (41 ∷ h.rest) taken all end in
          record {
            rest = r.rest;
            split = h.split ∙ ap (λ u. u ++ h.rest) spelled ∙ ap (λ u. 40 ∷ u) (closing (join_with_byte 32 (t ∷ texts)) 41 h.rest ∙ ap (λ u. u ++ 41 ∷ h.rest) (join-first t texts) ∙ tail-same r.split);
            later = r.later;
          }
        where
          tail-same : {xs ys : List ℕ} → 32 ∷ xs ≡ 32 ∷ ys → xs ≡ ys
          tail-same q = cc

  -- A list's object: as many parts as its range allows between brackets.
  abbrev pub Lists : Kind → ℕ → Type 0
  Lists kind part = Word (opener kind ∷ []) (ListReads s Later taken kind part (range_at s e)) text

  list-object : (kind : Kind) (part n : ℕ) → node_at s e ≡ Some (list_node kind part) → (texts : List (List ℕ)) (os : Objects) (l : List ℕ) → AreTexts s (replicate n part) texts os l → IsInRange n (range_at s e) → (rest : List ℕ) → text ≡ opener kind ∷ (join_with_byte 32 texts ++ closer kind ∷ rest) → Later rest (closed n (through parted (opened kind taken) os l)) → Here
  list-object kind part n at texts os l each r rest split k =
      let e' : count os ≡ n = count-texts s n part texts os l each in
      let each' : AreTexts s (replicate (count os) part) texts os l = subst (λ m. AreTexts s (replicate m part) texts os l) (sym e') each in
      record {
        object = list_object kind os;
        labels = l;
        own = opener kind ∷ (join_with_byte 32 texts ++ closer kind ∷ []);
        rest = rest;
        is_text = text-known s e (list_node kind part) at (opener kind ∷ (join_with_byte 32 texts ++ closer kind ∷ [])) (list_object kind os) l (list-in s kind part (range_at s e) (opener kind ∷ (join_with_byte 32 texts ++ closer kind ∷ [])) os texts l (subst (λ m. IsInRange m (range_at s e)) (sym e') r) each' refl);
        split = split ∙ ap (λ u. opener kind ∷ u) (sym (closing (join_with_byte 32 texts) (closer kind) rest));
        later = subst (Later rest) (through-list s.mode kind os l taken (texts-labels s (replicate n part) texts os l each)) (subst (λ m. Later rest (closed m (through parted (opened kind taken) os l))) (sym e') k);
      }

  pub list-reads : (kind : Kind) (part : ℕ) → node_at s e ≡ Some (list_node kind part) → Lists kind part → Here
  list-reads kind part at h = go h.later.parts h.later.in_range h.later.reads
    where
      go : (n : ℕ) → IsInRange n (range_at s e) → ReadsSome s Later kind part n h.rest (opened kind taken) → Here
      go zero r k = list-object kind part 0 at [] none [] AreTexts.no_text r k.rest (h.split ∙ ap (λ u. opener kind ∷ u) k.split) k.later
      go (suc n) r k =
          let c = each-out s parted (Ends Later kind (suc n)) (replicate (suc n) part) (32 ∷ h.rest) (opened kind taken) (record { rest = h.rest; split = refl; later = k }) in
          last c.texts c.objects c.labels c.each c.split c.later
        where
          tail-same : {xs ys : List ℕ} → 32 ∷ xs ≡ 32 ∷ ys → xs ≡ ys
          tail-same q = cc

          last : (texts : List (List ℕ)) (os : Objects) (l : List ℕ) → AreTexts s (part ∷ replicate n part) texts os l → {rest : List ℕ} → 32 ∷ h.rest ≡ spaces texts ++ rest → Ends Later kind (suc n) rest (through parted (opened kind taken) os l) → Here
          last _ os l (AreTexts.one_more {text = t} {texts = texts} {o = o} {os = os'} first each) {rest} split m =
              list-object kind part (suc n) at (t ∷ texts) (more o os') l (AreTexts.one_more first each) r m.rest
              (h.split ∙ ap (λ u. opener kind ∷ u) (tail-same split ∙ ap (λ u. (t ++ spaces texts) ++ u) m.split ∙ ap (λ u. u ++ closer kind ∷ m.rest) (sym (join-first t texts))))
              m.later

  pub reads-list : (kind : Kind) (part : ℕ) → node_at s e ≡ Some (list_node kind part) → Here → Lists kind part
  reads-list kind part at h =
      let k = list-out s kind part (range_at s e) h.own h.object h.labels (known-text s e (list_node kind part) at h.own h.object h.labels h.is_text) in
      let l : List ℕ = h.labels in
      record {
        rest = join_with_byte 32 k.texts ++ closer kind ∷ h.rest;
        split = h.split ∙ ap (λ u. u ++ h.rest) k.spelled ∙ ap (λ u. opener kind ∷ u) (closing (join_with_byte 32 k.texts) (closer kind) h.rest);
        later = record {
          parts = count k.objects;
          in_range = k.in_range;
          reads = go k.texts k.objects (count k.objects) h.labels k.each (subst (Later h.rest) (ap (λ o. with_object taken o h.labels) k.is_list ∙ sym (through-list s.mode kind k.objects h.labels taken (texts-labels s (replicate (count k.objects) part) k.texts k.objects h.labels k.each))) h.later);
        };
      }
    where
      go : (texts : List (List ℕ)) (os : Objects) (n : ℕ) (l : List ℕ) → AreTexts s (replicate n part) texts os l → Later h.rest (closed n (through parted (opened kind taken) os l)) → ReadsSome s Later kind part n (join_with_byte 32 texts ++ closer kind ∷ h.rest) (opened kind taken)
      go _ _ zero _ AreTexts.no_text k = record { rest = h.rest; split = refl; later = k }
      go _ _ (suc n) _ (AreTexts.one_more {text = t} {texts = texts} {o = o} {os = os'} {l = l} first each) k =
          let all : AreTexts s (part ∷ replicate n part) (t ∷ texts) (more o os') l = AreTexts.one_more first each in
          let r = each-in s parted (Ends Later kind (suc n)) (part ∷ replicate n part) (t ∷ texts) (more o os') l (closer kind ∷ h.rest) (opened kind taken) all (record { rest = h.rest; split = refl; later = k }) in
          subst (λ u. ReadsSome s Later kind part (suc n) u (opened kind taken)) (sym (ap (λ u. u ++ closer kind ∷ h.rest) (join-first t texts) ∙ tail-same r.split)) r.later
        where
          tail-same : {xs ys : List ℕ} → 32 ∷ xs ≡ 32 ∷ ys → xs ≡ ys
          tail-same q = cc
