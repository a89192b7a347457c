-- The lines of a pool's drawings, one after another.
use Rattle.std.proofs.Common.{◌≡◌, ◌≢◌, ℕ, zero, suc, ◌+◌, ◌<◌, ◌⊎◌, inl, inr, arith, true, false, List, [], ◌∷◌, ◌++◌, length, map, take, get_or, append-nil, append_assoc, refl, sym, ◌∙◌, ap, subst, add-one}
use Rattle.std.specs.Prelude.{Option, Some, None, IfSome, slice_get, nat_eq, if◌then◌else◌}
use Rattle.std.specs.List.{All}
use Rattle.std.proofs.lemmas.Bool.Decides.{eqb_tells}
use Rattle.std.proofs.lemmas.List.{map-append}
use Rattle.std.proofs.Math.Seq.{take-suc}
use Rattle.bz_model.specs.Spec.{Spec}
use Rattle.object_store.specs.Tokens.{IsOf}
use Rattle.size_window.specs.declared.turned.Entry.{Entry}
use Rattle.size_window.specs.Turn.{EntryHasLabels, entry_of}
use Rattle.session_pool.specs.Member.{MemberState}
use Rattle.call_stages.specs.Lines.{lines_below}
use Rattle.sample_command.specs.Drawn.{AreLinesOf, Lists}
use Rattle.sample_command.specs.Drawn as drawn
use Rattle.call_stages.specs.declared.status.Status.{Status}
use Rattle.pool_command.specs.PoolCommand.{first_of, first_status, session_line}
use Rattle.pool_command.specs.Pages.{told_session, closing_of_member, AreLinesOfMember, AreAppended, AllCanPrint}
use Rattle.pool_command.proofs.Orders.{is-there}

-- lines that are alike below a number make one text
pub below-alike : (f g : ℕ → List ℕ) (n : ℕ) → ((i : ℕ) → i < n → f i ≡ g i) → lines_below f n ≡ lines_below g n
unfolding lines_below
below-alike f g zero same = refl
below-alike f g (suc n) same = ap (λ front. front ++ f n) (below-alike f g n (λ i few. same i (omega (arith, few)))) ∙ ap (λ line. lines_below g n ++ line) (same n (omega arith))

below-next : (f : ℕ → List ℕ) (n : ℕ) → lines_below f (suc n) ≡ lines_below f n ++ f n
unfolding lines_below
below-next f n = refl

below-none : (f : ℕ → List ℕ) → lines_below f 0 ≡ []
unfolding lines_below
below-none f = refl

-- texts of which one is replaced
abbrev replaced : (lines : ℕ → List ℕ) (at : ℕ) (line : List ℕ) → ℕ → List ℕ
replaced lines at line i = if nat_eq i at then line else lines i

replaced-at : (lines : ℕ → List ℕ) (at : ℕ) (line : List ℕ) (i : ℕ) → nat_eq i at ≡ true → replaced lines at line i ≡ line
replaced-at lines at line i is = ap (λ b. if b then line else lines i) is

replaced-not : (lines : ℕ → List ℕ) (at : ℕ) (line : List ℕ) (i : ℕ) → nat_eq i at ≡ false → replaced lines at line i ≡ lines i
replaced-not lines at line i is = ap (λ b. if b then line else lines i) is

-- nothing is appended
pub none-appended : (s : Spec) (pool : List MemberState) (text : List ℕ) → AreAppended s pool 0 text text
none-appended s pool text = record {
  lines = λ i. [];
  lists = λ i few. absurd (omega (arith, few));
  text_is = sym (append-nil text) ∙ ap (λ more. text ++ more) (sym (below-none (λ number. told_session pool number [])));
}

-- the lines of one more drawing are
pub one-appended : (s : Spec) (pool : List MemberState) (n : ℕ) (start text next line : List ℕ) → AreAppended s pool n start text → AreLinesOfMember s (slice_get pool n) line → next ≡ text ++ told_session pool n line → AreAppended s pool (n + 1) start next
one-appended s pool n start text next line p of is = record {
  lines = replaced p.lines n line;
  lists = λ i few. listed i few (eqb_tells i n);
  text_is = text-is;
}
  where
    listed : (i : ℕ) → i < n + 1 → ((nat_eq i n ≡ true) × (i ≡ n)) ⊎ ((nat_eq i n ≡ false) × (i ≢ n)) → AreLinesOfMember s (slice_get pool i) (replaced p.lines n line i)
    listed i few (inl k) = subst (AreLinesOfMember s (slice_get pool i)) (sym (replaced-at p.lines n line i k.0)) (subst (λ j. AreLinesOfMember s (slice_get pool j) line) (sym k.1) of)
    listed i few (inr k) = subst (AreLinesOfMember s (slice_get pool i)) (sym (replaced-not p.lines n line i k.0)) (p.lists i (let other = k.1 in omega (arith, few, other)))

    same : (i : ℕ) → i < n → ((nat_eq i n ≡ true) × (i ≡ n)) ⊎ ((nat_eq i n ≡ false) × (i ≢ n)) → told_session pool i (p.lines i) ≡ told_session pool i (replaced p.lines n line i)
    same i few (inl k) = absurd (let is = k.1 in omega (arith, few, is))
    same i few (inr k) = ap (told_session pool i) (sym (replaced-not p.lines n line i k.0))

    here : ((nat_eq n n ≡ true) × (n ≡ n)) ⊎ ((nat_eq n n ≡ false) × (n ≢ n)) → line ≡ replaced p.lines n line n
    here (inl k) = sym (replaced-at p.lines n line n k.0)
    here (inr k) = absurd (k.1 refl)

    text-is : next ≡ start ++ lines_below (λ number. told_session pool number (replaced p.lines n line number)) (n + 1)
    text-is =
        is
        ∙ ap (λ t. t ++ told_session pool n line) p.text_is
        ∙ append_assoc start (lines_below (λ number. told_session pool number (p.lines number)) n) (told_session pool n line)
        ∙ ap (λ t. start ++ t) (
        ap (λ t. t ++ told_session pool n line) (below-alike (λ number. told_session pool number (p.lines number)) (λ number. told_session pool number (replaced p.lines n line number)) n (λ i few. same i few (eqb_tells i n)))
        ∙ ap (λ l. lines_below (λ number. told_session pool number (replaced p.lines n line number)) n ++ told_session pool n l) (here (eqb_tells n n))
        ∙ sym (below-next (λ number. told_session pool number (replaced p.lines n line number)) n)
        ∙ ap (lines_below (λ number. told_session pool number (replaced p.lines n line number))) (sym (add-one n)))

-- the lines of one more entry are appended
pub entry-appended : (s : Spec) (entries : List Entry) (k : ℕ) (e : Entry) (start text next : List ℕ) → k < length entries → e ≡ get_or entries k e → (lines : List ℕ) × Lists s (map entry_of (take k entries)) lines × (text ≡ start ++ lines) → (more : List ℕ) × AreLinesOf s (entry_of e) more × (next ≡ text ++ more) → (lines : List ℕ) × Lists s (map entry_of (take (k + 1) entries)) lines × (next ≡ start ++ lines)
entry-appended s entries k e start text next within is p q = (
  p.0 ++ q.0,
  drawn.one_more (map entry_of (take k entries)) (entry_of e) p.0 q.0 p.1 q.1 entries-are refl,
  q.2 ∙ ap (λ t. t ++ q.0) p.2 ∙ append_assoc start p.0 q.0,
)
  where
    entries-are : map entry_of (take (k + 1) entries) ≡ map entry_of (take k entries) ++ entry_of e ∷ []
    entries-are = ap (λ n. map entry_of (take n entries)) (add-one k) ∙ ap (map entry_of) (take-suc entries k e within ∙ ap (λ x. take k entries ++ x ∷ []) (sym is)) ∙ map-append entry_of (take k entries) (e ∷ [])

-- an element of a list of which all are so is so
pub all-at : (P : Entry → Type 0) (entries : List Entry) (k : ℕ) (e : Entry) → k < length entries → e ≡ get_or entries k e → All P entries → P e
all-at P entries k e within is all = subst P (sym is) (all k e within)

-- no drawing gives a status yet
pub no-status : (statuses : ℕ → Status) → Status.Done ≡ first_status statuses 0
unfolding first_status
no-status statuses = refl

-- one more drawing does
pub status-more : (statuses : ℕ → Status) (n : ℕ) (so_far status next : Status) → so_far ≡ first_status statuses n → status ≡ statuses n → next ≡ first_of so_far status → next ≡ first_status statuses (n + 1)
unfolding first_status
status-more statuses n so_far status next before is first =
    first ∙ ap (λ s. first_of s status) before ∙ ap (first_of (first_status statuses n)) is ∙ ap (first_status statuses) (sym (add-one n))

-- the entries of a drawing of which all can be printed
pub printable-at : (s : Spec) (pool : List MemberState) (number : ℕ) (entries : List Entry) → AllCanPrint s pool → number < length pool → IfSome (slice_get pool number) (λ m. entries ≡ m.entries) → All (λ e. IsOf s 0 e.shape.items) entries × All (EntryHasLabels s.mode) entries
printable-at s pool number entries all within told = go (slice_get pool number) refl told
  where
    go : (o : Option MemberState) → slice_get pool number ≡ o → IfSome o (λ m. entries ≡ m.entries) → All (λ e. IsOf s 0 e.shape.items) entries × All (EntryHasLabels s.mode) entries
    go None at k = absurd (is-there pool number within at)
    go (Some m) at k = let can = all.each number m at in (subst (All (λ (e : Entry). IsOf s 0 e.shape.items)) (sym k) can.are_of, subst (All (EntryHasLabels s.mode)) (sym k) can.labels)

-- the lines of entries are those of a drawing
lines-of-member : (s : Spec) (o : Option MemberState) (entries : List Entry) (lines : List ℕ) → IfSome o (λ m. entries ≡ m.entries) → Lists s (map entry_of entries) lines → AreLinesOfMember s o lines
lines-of-member s None entries lines told l = tt
lines-of-member s (Some m) entries lines told l = subst (λ es. Lists s (map entry_of es) lines) told l

-- the lines of a drawing are appended
pub session-appended : (s : Spec) (pool : List MemberState) (number : ℕ) (entries : List Entry) (old first with_entries next line : List ℕ) → IfSome (slice_get pool number) (λ m. entries ≡ m.entries) → line ≡ session_line number → first ≡ old ++ line → (lines : List ℕ) × Lists s (map entry_of entries) lines × (with_entries ≡ first ++ lines) → next ≡ with_entries ++ closing_of_member (slice_get pool number) → (lines : List ℕ) × AreLinesOfMember s (slice_get pool number) lines × (next ≡ old ++ told_session pool number lines)
session-appended s pool number entries old first with_entries next line told is first_is p next_is = (
  p.0,
  lines-of-member s (slice_get pool number) entries p.0 told p.1,
  next_is
      ∙ ap (λ t. t ++ closing_of_member (slice_get pool number)) (p.2 ∙ ap (λ t. t ++ p.0) (first_is ∙ ap (λ l. old ++ l) is))
      ∙ append_assoc (old ++ session_line number) p.0 (closing_of_member (slice_get pool number))
      ∙ append_assoc old (session_line number) (p.0 ++ closing_of_member (slice_get pool number)),
)
