-- What a course keeps are objects of class 0.
use Rattle.std.proofs.Common.{◌≡◌, ℕ, List, [], ◌∷◌, ◌++◌, sym, subst}
use Rattle.std.specs.Prelude.{Some, option_to_list}
use Rattle.bz_model.specs.Fraction.{Fraction}
use Rattle.bz_model.specs.Spec.{Spec, body_of}
use Rattle.bz_model.specs.Object.{Object, Belongs}
use Rattle.bz_model.specs.Making.{ClassMakes, Just}
use Rattle.bz_model.specs.Run.{Window, Kept, IdealRun}
use Rattle.bz_model.specs.Run as run
use Rattle.bz_laws.proofs.Makings.{fine}
use Rattle.object_store.specs.Tokens.{IsOf}
use Rattle.shape_sampler.proofs.Numbers.{least_of, least_of-in}
use Rattle.size_window.specs.RunByBits.{Limits, Entry, Course, Turned, followed_by}
use Rattle.size_window.specs.Follows.{AreEntriesOf, window_of, Follows}

-- an object of class 0
record IsMade (s : Spec) (o : Object) : Type 0 where
  pub body : ℕ
  pub is_body : body_of s 0 ≡ Some body
  pub belongs : Belongs s body o

abbrev AreMade : Spec → List Kept → Type 0
AreMade s [] = Unit {0}
AreMade s (k ∷ ks) = IsMade s k.object × AreMade s ks

made-more : (s : Spec) (ks : List Kept) (k : Kept) → AreMade s ks → IsMade s k.object → AreMade s (ks ++ k ∷ [])
made-more s [] k all one = (one, tt)
made-more s (j ∷ ks) k all one = (all.0, made-more s ks k all.1 one)

is-made : (s : Spec) (x : Fraction) (room left : ℕ) (us rest : List Fraction) (o : Object) → ClassMakes s x 0 room us (Just o left) rest → IsMade s o
is-made s x room left us rest o (body, is_body, makes) = record { body = body; is_body = is_body; belongs = (fine s x makes).0 }

are-made : (s : Spec) (x : Fraction) (w : Window) (us : List Fraction) (kept : List Kept) (thrown : ℕ) (left : List Fraction) → IdealRun s x w us kept thrown left → AreMade s kept
are-made s x w us kept thrown left run.start = tt
are-made s x w us kept thrown left (run.thrown_over before fewer over) = are-made s x w us kept _ _ before
are-made s x w us kept thrown left (run.thrown_small o room before fewer makes small) = are-made s x w us kept _ _ before
are-made s x w us kept thrown left (run.keeps o room labels before fewer makes large labelled now) =
    subst (AreMade s) (sym now) (made-more s _ (record { object = o; labels = labels }) (are-made s x w us _ thrown _ before) (is-made s x w.max room _ _ o makes))

last-is : (s : Spec) (ks : List Kept) (es : List Entry) (e : Entry) → AreMade s ks → AreEntriesOf ks (es ++ e ∷ []) → IsOf s 0 e.tokens
last-is s [] [] e made h = elim h [ ]
last-is s [] (d ∷ es) e made h = elim h [ ]
last-is s (k ∷ ks) [] e made h = record { body = made.0.body; is_body = made.0.is_body; object = k.object; belongs = made.0.belongs; spelled = h.0.tokens }
last-is s (k ∷ ks) (d ∷ es) e made h = last-is s ks es e made.1 h.1

-- the entry that a turn adds to a course that follows the ideal run is of class 0
pub kept-is-of : (s : Spec) (x : Fraction) (limits : Limits) (c : Course) (t : Turned) (e : Entry) → Follows s x limits (followed_by c t) → t.entry ≡ Some e → IsOf s 0 e.tokens
kept-is-of s x limits c t e follows is =
    let made = are-made s x (window_of limits) (least_of follows.finished ++ []) follows.kept _ [] (follows.run (least_of follows.finished) [] (least_of-in follows.finished)) in
    let entries : AreEntriesOf follows.kept (c.entries ++ e ∷ []) = subst (λ o. AreEntriesOf follows.kept (c.entries ++ option_to_list o)) is follows.entries in
    last-is s follows.kept c.entries e made entries
