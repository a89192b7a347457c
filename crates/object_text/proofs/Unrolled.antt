-- What entries stand for where one is put at the end, which is in front, or taken from there.
use Rattle.std.proofs.Common.{◌≡◌, ℕ, zero, suc, ◌-◌, ◌<◌, List, [], ◌∷◌, ◌++◌, arith, sym, ◌∙◌, ap, append_assoc, append-nil, replicate}
use Rattle.object_text.specs.declared.print_stack.Entry.{Entry}
use Rattle.object_text.specs.Todos.{todos_in_order, entry_items, IsSomething, AreSome}

pub unrolled-push : (entries : List Entry) (x : Entry) → todos_in_order (entries ++ x ∷ []) ≡ entry_items x ++ todos_in_order entries
unrolled-push [] x = sym (append-nil (entry_items x))
unrolled-push (y ∷ entries) x = ap (λ es. es ++ entry_items y) (unrolled-push entries x) ∙ append_assoc (entry_items x) (todos_in_order entries) (entry_items y)

-- If no entry of a list is empty, none is after an entry that stands for something is put at the
-- end.
pub AreSome-push : (entries : List Entry) (x : Entry) → AreSome entries → IsSomething x → AreSome (entries ++ x ∷ [])
AreSome-push [] x h k = (k, tt)
AreSome-push (y ∷ entries) x h k = (h.0, AreSome-push entries x h.1 k)

-- If no entry of a list is empty, then its last one stands for something, and none of the others is
-- empty.
pub AreSome-rest : (entries : List Entry) (x : Entry) → AreSome (entries ++ x ∷ []) → AreSome entries × IsSomething x
AreSome-rest [] x h = (tt, h.0)
AreSome-rest (y ∷ entries) x h = let k = AreSome-rest entries x h.1 in ((h.0, k.0), k.1)

-- where one was put at the end
pub unrolled-put : (old now : List Entry) (x : Entry) → now ≡ old ++ x ∷ [] → todos_in_order now ≡ entry_items x ++ todos_in_order old
unrolled-put old now x e = ap todos_in_order e ∙ unrolled-push old x

-- some of one thing begin with one
pub replicate-first : {A : Type 0} → (n : ℕ) (a : A) → 0 < n → replicate n a ≡ a ∷ replicate (n - 1) a
replicate-first zero a h = absurd (omega arith)
replicate-first (suc n) a h = let k : suc n - 1 ≡ n = omega arith in ap (λ m. a ∷ replicate m a) (sym k)
