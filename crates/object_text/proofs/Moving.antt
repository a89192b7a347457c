-- Each piece that is taken off the front of a text moves on, and where no piece is there the text has its fault.
use Rattle.std.proofs.Common.{◌≡◌, ℕ, ◌<◌, ◌≤◌, List, [], ◌∷◌, ◌++◌, length, arith, refl, sym, ◌∙◌, ap, subst, Option, Some, codes, length-append, decimal}
use Rattle.bz_model.specs.Spec as spec
use Rattle.bz_model.specs.Spec.{Spec, Node, node_at, range_at, IsInRange, IsWithinHigh}
use Rattle.bz_model.specs.ObjectText.{leaf_text}
use Rattle.class_system.specs.Sound.{IsSound}
use Rattle.class_system.specs.Limits.{IsWithinLimits}
use Rattle.class_system.specs.Views.{spec_mode}
use Rattle.class_system.specs.declared.draft.Mode.{Mode}
use Rattle.class_system.specs.declared.ids.ExprId.{ExprId}
use Rattle.object_store.specs.declared.token.Token.TheVariants as token
use Rattle.object_text.specs.declared.parse_stack.Expected.{Expected}
use Rattle.object_text.specs.Taken.{Taken, with_token, with_label}
use Rattle.object_text.specs.Scanning.{Word, Number, BeginsWithByte, DiffersFrom, IsLabel, HasNoLabel, BeginsLike, Steps, Faults}
use Rattle.object_text.specs.Expected.{ReadsObject, Reads, Comes, AllCanCome, HasObjects, Moves}
use Rattle.object_text.specs.Pieces.{ReadingState, IsNeutral, IsLabelIf, IsAtom, IsNoAtom}
use Rattle.object_text.proofs.Digits.{cons-same}
use Rattle.object_text.proofs.Scans.{steps-then, steps-same, faults-through, WordThen, word-steps, word-faults, byte-differs, number-steps, number-faults}
use Rattle.object_text.proofs.TakenParts.{same}
use Rattle.object_text.proofs.Beginnings.{neutral-reads, reads-neutral, atom-reads, reads-atom, labelled-reads, reads-labelled}
use Rattle.object_text.proofs.Living.{Lives, lives-stack, reads-no-digit, can-come-later}

-- Where what is next and what was read are given by equations.
pub moves-by : (s : Spec) (Before : Taken → List ℕ → Type 0) (text rest : List ℕ) {n next : Option ExprId} {t taken : Taken} {k stack : List Expected} → next ≡ n → taken ≡ t → stack ≡ k → Moves s Before text n k t rest → Moves s Before text next stack taken rest
moves-by s Before text rest {n} {next} {t} {taken} {k} {stack} e f g h =
    subst (λ z. Moves s Before text z stack taken rest) (sym e)
    (subst (λ z. Moves s Before text n z taken rest) (sym g)
    (subst (λ z. Moves s Before text n k z rest) (sym f) h))

-- Where the same can be read, steps and faults are the same.
pub steps-by : (A B C : Taken → List ℕ → Type 0) (text rest : List ℕ) → ((whole : Taken) (other : List ℕ) → B whole other → A whole other) → ((whole : Taken) (other : List ℕ) → A whole other → B whole other) → Steps B C text rest → Steps A C text rest
steps-by A B C text rest back forth h = steps-then A B C text text rest (steps-same A B text back forth) h

-- If two ways of reading accept the same texts with the same results, a fault by the one is a fault
-- by the other at the same byte.
pub faults-by : (A B : Taken → List ℕ → Type 0) (text : List ℕ) (left : ℕ) → ((whole : Taken) (other : List ℕ) → B whole other → A whole other) → ((whole : Taken) (other : List ℕ) → A whole other → B whole other) → Faults B text left → Faults A text left
faults-by A B text left back forth f = faults-through A B text text left (steps-same A B text back forth) f

-- What follows a word that isn't empty at the front of a text is shorter than the text.
pub shorter : (word text rest : List ℕ) → text ≡ word ++ rest → 0 < length word → length rest < length text
shorter word text rest e some = omega (arith, ap length e, length-append word rest)

pub byte-first : (b : ℕ) (text : List ℕ) (c : ℕ) (rest : List ℕ) → text ≡ c ∷ rest → BeginsWithByte b text → c ≡ b
byte-first b [] c rest e h = elim h [ ]
byte-first b (d ∷ text) c rest e h = (cons-same c d rest text (sym e)).0 ∙ h

-- A text that is a byte b and a rest begins with b.
pub byte-there : (b : ℕ) (text rest : List ℕ) → text ≡ b ∷ rest → BeginsWithByte b text
byte-there b [] rest e = absurd (cc)
byte-there b (d ∷ text) rest e = (cons-same d b text rest e).0

-- texts that go on likewise begin with the same byte
pub like-byte : (b : ℕ) (text other rest : List ℕ) → BeginsLike text other → other ≡ b ∷ rest → BeginsWithByte b text
like-byte b [] other rest h e = absurd (let f = h in cc)
like-byte b (d ∷ text) other rest h e = (cons-same d b h.0 rest (sym h.1 ∙ e)).0

module _ (s : Spec) (sound : IsSound s) (limits : IsWithinLimits s) (have : HasObjects s) (e : ExprId) (text rest : List ℕ) (old : ReadingState) (can : AllCanCome s (length text) old.stack) where
  abbrev Before : Taken → List ℕ → Type 0
  Before = λ whole other. ReadsObject s e.0 (Reads s whole old.stack) other old.taken

  abbrev Behind : Taken → Taken → List ℕ → Type 0
  Behind t = λ whole other. Reads s whole old.stack other t

  lives-behind : (t : Taken) → Lives (Behind t)
  lives-behind t = lives-stack s have (length text) old.stack can t

  can-behind : length rest < length text → AllCanCome s (length rest) old.stack
  can-behind h = can-come-later s (length text) (length rest) old.stack (omega arith) can

  -- neutral objects
  module _ (word : List ℕ) (at : node_at s e.0 ≡ Some (Node.Empty word)) where
    abbrev own : List ℕ
    own = leaf_text (codes "E") word

    some-word : 0 < length (leaf_text (codes "E") word)
    some-word = go word
      where
        go : (word : List ℕ) → 0 < length (leaf_text (codes "E") word)
        go [] = omega arith
        go (b ∷ word) = omega arith

    pub neutral-moves : (next : Option ExprId) (now : ReadingState) → IsNeutral word text old next now rest → Moves s (Comes s (Some e) old.stack old.taken) text next now.stack now.taken rest
    neutral-moves next now h =
        let less = shorter (leaf_text (codes "E") word) text rest h.split some-word in
        moves-by s Before text rest h.over h.taken h.stack (record {
          shorter = less;
          next_below = tt;
          can_come = can-behind less;
          steps = steps-by Before (WordThen (leaf_text (codes "E") word) (Behind (with_token old.taken token.Unit))) (Behind (with_token old.taken token.Unit)) text rest
              (λ whole other. neutral-reads s e.0 (Reads s whole old.stack) other old.taken word at) (λ whole other. reads-neutral s e.0 (Reads s whole old.stack) other old.taken word at)
              (word-steps (leaf_text (codes "E") word) (Behind (with_token old.taken token.Unit)) text rest h.split);
        })

    pub neutral-faults : (left : ℕ) → DiffersFrom (leaf_text (codes "E") word) text left → Faults (Comes s (Some e) old.stack old.taken) text left
    neutral-faults left h =
        let k = lives-behind (with_token old.taken token.Unit) in
        faults-by Before (WordThen (leaf_text (codes "E") word) (Behind (with_token old.taken token.Unit))) text left
        (λ whole other. neutral-reads s e.0 (Reads s whole old.stack) other old.taken word at) (λ whole other. reads-neutral s e.0 (Reads s whole old.stack) other old.taken word at)
        (word-faults (leaf_text (codes "E") word) (Behind (with_token old.taken token.Unit)) text k.more left h k.accepts)

  -- atoms
  module _ (word : List ℕ) (at : node_at s e.0 ≡ Some (Node.Atom word)) where
    some-atom : 0 < length (leaf_text (codes "Z") word)
    some-atom = go word
      where
        go : (word : List ℕ) → 0 < length (leaf_text (codes "Z") word)
        go [] = omega arith
        go (b ∷ word) = omega arith

    abbrev Dotted : Taken
    Dotted = with_token old.taken token.Dot

    abbrev Told : Taken → ℕ → List ℕ → Type 0
    Told = λ whole label other. Reads s whole old.stack other (with_label (with_token old.taken token.Dot) label)

    abbrev Signed : Taken → List ℕ → Type 0
    Signed = λ whole other. Word (35 ∷ []) (λ digits. Number 1 1000000 (λ label rest. Reads s whole old.stack rest (with_label (with_token old.taken token.Dot) label)) digits) other

    abbrev Digits : Taken → List ℕ → Type 0
    Digits = λ whole other. Number 1 1000000 (λ label rest. Reads s whole old.stack rest (with_label (with_token old.taken token.Dot) label)) other

    lives-digits : Lives Digits
    lives-digits =
        let k = lives-behind (with_label (with_token old.taken token.Dot) 1) in
        record { more = decimal 1 ++ k.more; accepts = record { whole = k.accepts.whole; reads = record { number = 1; least = omega arith; greatest = omega arith; rest = k.more; split = refl; later = k.accepts.reads } } }

    lives-signed : Lives Signed
    lives-signed = let k = lives-digits in record { more = 35 ∷ k.more; accepts = record { whole = k.accepts.whole; reads = record { rest = k.more; split = refl; later = k.accepts.reads } } }

    signed-steps : s.mode ≡ spec.Mode.Labelled → (behind : List ℕ) → text ≡ leaf_text (codes "Z") word ++ behind → Steps Before Signed text behind
    signed-steps m behind split = steps-by Before (WordThen (leaf_text (codes "Z") word) Signed) Signed text behind
        (λ whole other. labelled-reads s e.0 (Reads s whole old.stack) other old.taken word at m) (λ whole other. reads-labelled s e.0 (Reads s whole old.stack) other old.taken word at m)
        (word-steps (leaf_text (codes "Z") word) Signed text behind split)

    labelled-steps : s.mode ≡ spec.Mode.Labelled → (behind : List ℕ) → text ≡ leaf_text (codes "Z") word ++ behind → (label : ℕ) → IsLabel behind label rest → Steps Before (λ whole other. Told whole label other) text rest
    labelled-steps m behind split label l =
        steps-then Before Signed (λ whole other. Told whole label other) text behind rest (signed-steps m behind split)
        (steps-then Signed Digits (λ whole other. Told whole label other) behind l.digits rest
        (word-steps (35 ∷ []) Digits behind l.digits l.split)
        (number-steps 1 1000000 Told (omega arith) l.digits rest label l.number (λ whole k other h. reads-no-digit s whole old.stack other (with_label (with_token old.taken token.Dot) k) h)))

    label-shorter : (behind : List ℕ) (label : ℕ) → IsLabel behind label rest → length rest ≤ length behind
    label-shorter behind label l =
        let n = l.number in
        omega (arith, ap length l.split, ap length n.split, length-append (decimal label) rest)

    pub atom-moves : (m : Mode) → spec_mode m ≡ s.mode → (next : Option ExprId) (now : ReadingState) → IsAtom m word text old next now rest → Moves s (Comes s (Some e) old.stack old.taken) text next now.stack now.taken rest
    atom-moves m same next now h = go m same h.label
      where
        go : (m : Mode) → spec_mode m ≡ s.mode → IsLabelIf m h.behind (with_token old.taken token.Dot) now.taken rest → Moves s (Comes s (Some e) old.stack old.taken) text next now.stack now.taken rest
        go _ same (IsLabelIf.unlabelled end taken) =
            let split : text ≡ leaf_text (codes "Z") word ++ rest = h.split ∙ ap (λ t. leaf_text (codes "Z") word ++ t) end in
            let less = shorter (leaf_text (codes "Z") word) text rest split some-atom in
            moves-by s Before text rest h.over taken h.stack (record {
              shorter = less;
              next_below = tt;
              can_come = can-behind less;
              steps = steps-by Before (WordThen (leaf_text (codes "Z") word) (Behind (with_token old.taken token.Dot))) (Behind (with_token old.taken token.Dot)) text rest
                  (λ whole other. atom-reads s e.0 (Reads s whole old.stack) other old.taken word at (sym same)) (λ whole other. reads-atom s e.0 (Reads s whole old.stack) other old.taken word at (sym same))
                  (word-steps (leaf_text (codes "Z") word) (Behind (with_token old.taken token.Dot)) text rest split);
            })
        go _ same (IsLabelIf.labelled label l taken) =
            let behind = shorter (leaf_text (codes "Z") word) text h.behind h.split some-atom in
            let fewer = label-shorter h.behind label l in
            let less : length rest < length text = omega arith in
            moves-by s Before text rest h.over taken h.stack (record {
              shorter = less;
              next_below = tt;
              can_come = can-behind less;
              steps = labelled-steps (sym same) h.behind h.split label l;
            })

    word-missing : (m : spec.Mode) → m ≡ s.mode → (left : ℕ) → DiffersFrom (leaf_text (codes "Z") word) text left → Faults Before text left
    word-missing spec.Mode.Unlabelled m left d =
        let k = lives-behind (with_token old.taken token.Dot) in
        faults-by Before (WordThen (leaf_text (codes "Z") word) (Behind (with_token old.taken token.Dot))) text left
        (λ whole other. atom-reads s e.0 (Reads s whole old.stack) other old.taken word at (sym m)) (λ whole other. reads-atom s e.0 (Reads s whole old.stack) other old.taken word at (sym m))
        (word-faults (leaf_text (codes "Z") word) (Behind (with_token old.taken token.Dot)) text k.more left d k.accepts)
    word-missing spec.Mode.Labelled m left d =
        let k = lives-signed in
        faults-by Before (WordThen (leaf_text (codes "Z") word) Signed) text left
        (λ whole other. labelled-reads s e.0 (Reads s whole old.stack) other old.taken word at (sym m)) (λ whole other. reads-labelled s e.0 (Reads s whole old.stack) other old.taken word at (sym m))
        (word-faults (leaf_text (codes "Z") word) Signed text k.more left d k.accepts)

    label-missing : (behind : List ℕ) (left : ℕ) → HasNoLabel behind left → Faults Signed behind left
    label-missing behind left (HasNoLabel.no_sign count other) = let k = lives-digits in word-faults (35 ∷ []) Digits behind k.more left (byte-differs 35 behind left count other) k.accepts
    label-missing behind left (HasNoLabel.no_digits digits split count none) =
        let k = lives-behind (with_label (with_token old.taken token.Dot) 1) in
        faults-through Signed Digits behind digits left (word-steps (35 ∷ []) Digits behind digits split)
        (number-faults 1 1000000 Told (omega arith) digits k.more left (omega arith) (omega arith) count none k.accepts)

    pub atom-faults : (m : Mode) → spec_mode m ≡ s.mode → (left : ℕ) → IsNoAtom m word text left → Faults (Comes s (Some e) old.stack old.taken) text left
    atom-faults m same left (IsNoAtom.no_word d) = word-missing (spec_mode m) same left d
    atom-faults _ same left (IsNoAtom.no_label behind split none) = faults-through Before Signed text behind left (signed-steps (sym same) behind split) (label-missing behind left none)
