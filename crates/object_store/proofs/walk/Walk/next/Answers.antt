-- Each way out of a step.
use Rattle.std.proofs.Common.{◌≡◌, ◌-◌, suc, List, take, drop, length, take_all, arith, subst, refl, length-drop, Bool, IsTrue, false}
use Rattle.object_store.specs.declared.token.Token.{Token}
use Rattle.object_store.specs.Tokens.{AreOf}
use Rattle.object_store.specs.Walking.{Walking, IsVisitOfWalk, HasNoObjects}
use Rattle.object_store.proofs.Walks.{first-of, no-way, way-after-token, way-further, visit-with-token, visit-down}
use Rattle.object_store.proofs.Steps.{no-token-seen}
use Rattle.object_store.proofs.walk.Walk.next.Goals as goal

never-down : {A : Type 0} (b : Bool) → (A → IsTrue b) → b ≡ false → ¬ A
never-down b to isnt a = let t = subst IsTrue isnt (to a) in absurd (cc)

rest : (ts : List Token) → take (length ts - 1) (drop 1 ts) ≡ drop 1 ts
rest ts = take_all (length ts - 1) (drop 1 ts) (omega (arith, length-drop 1 ts))

pub returns-in_default-at-clause-next : goal.returns-in_default-at-clause-next
returns-in_default-at-clause-next c =
    let i = c.self.inside in
    let first = first-of i.pending.items c.in-Some.e.0 c.in-Some.ensures in
    subst (λ (w : Walking). HasNoObjects w w) c.self.view_is (record {
      never = λ a. c.in_default-at.ensures.none (drop 1 i.pending.items) (subst (λ gs. AreOf i.system.now gs i.left.now) first a);
      stays = refl;
    })

pub returns-then-self-eq0-clause-next : goal.returns-then-self-eq0-clause-next
returns-then-self-eq0-clause-next c =
    let i = c.self.inside in
    let first = first-of i.pending.items c.in-Some.e.0 c.in-Some.ensures in
    let down = c.is_way_down.ensures.0 c.if-not-is_way_down.false in
    subst (λ (w : Walking). HasNoObjects w w) c.self.view_is (record {
      never = no-way i.system.now c.known.ensures.sound c.in-Some.e.0 (drop 1 i.pending.items) i.pending.items i.left.now i.way c.in-Some-at.visit first c.self.invariant down c.if-self-eq0.true;
      stays = refl;
    })

pub invariant_of-self-then-not-is_way_down : goal.invariant_of-self-then-not-is_way_down
invariant_of-self-then-not-is_way_down c =
    let i = c.self.inside in
    let first = first-of i.pending.items c.in-Some.e.0 c.in-Some.ensures in
    let put = c.in_ok-put_below.ensures.ok c.in-Some.e.0 (drop 1 i.pending.items) first in
    way-after-token i.system.now c.known.ensures.sound c.in-Some.e.0 (drop 1 i.pending.items) i.pending.items i.left.now i.way c.in-Some-at.visit first c.self.invariant c.in-Some-at.ensures.seen c.put_below.new.pending.items put c.node_count-self-inside.result c.node_count-self-inside.ensures.count

pub returns-in_ok-put_below-clause-next : goal.returns-in_ok-put_below-clause-next
returns-in_ok-put_below-clause-next c =
    let i = c.self.inside in
    let first = first-of i.pending.items c.in-Some.e.0 c.in-Some.ensures in
    let put = c.in_ok-put_below.ensures.ok c.in-Some.e.0 (drop 1 i.pending.items) first in
    subst (λ (w : Walking). IsVisitOfWalk w (record { system = i.system.now; waiting = c.put_below.new.pending.items; left = take (length i.left.now - 1) (drop 1 i.left.now); way = c.node_count-self-inside.result }) c.in-Some.e.0 c.in-Some-at.visit) c.self.view_is
    (visit-with-token i.system.now c.known.ensures.sound c.in-Some.e.0 (drop 1 i.pending.items) i.pending.items i.left.now i.way c.in-Some-at.visit first c.self.invariant c.in-Some-at.ensures.seen c.put_below.new.pending.items put (never-down c.is_way_down.result c.is_way_down.ensures.1 c.if-not-is_way_down.true) (take (length i.left.now - 1) (drop 1 i.left.now)) c.node_count-self-inside.result (rest i.left.now) c.node_count-self-inside.ensures.count)

pub invariant_of-self-else-not-is_way_down : goal.invariant_of-self-else-not-is_way_down
invariant_of-self-else-not-is_way_down c =
    let i = c.self.inside in
    let first = first-of i.pending.items c.in-Some.e.0 c.in-Some.ensures in
    let put = c.in_ok-put_below-2.ensures.ok c.in-Some.e.0 (drop 1 i.pending.items) first in
    let down = c.is_way_down.ensures.0 c.if-not-is_way_down.false in
    let some = c.if-self-eq0.false in
    let count : i.way ≡ suc (i.way - 1) = omega (arith, some) in
    way-further i.system.now c.known.ensures.sound c.in-Some.e.0 (drop 1 i.pending.items) i.pending.items i.left.now i.way c.in-Some-at.visit first c.self.invariant c.in-Some-at.ensures.seen c.put_below-else-not-is_way_down.new.pending.items put down (i.way - 1) count

pub returns-in_ok-put_below-2-clause-next : goal.returns-in_ok-put_below-2-clause-next
returns-in_ok-put_below-2-clause-next c =
    let i = c.self.inside in
    let first = first-of i.pending.items c.in-Some.e.0 c.in-Some.ensures in
    let put = c.in_ok-put_below-2.ensures.ok c.in-Some.e.0 (drop 1 i.pending.items) first in
    let down = c.is_way_down.ensures.0 c.if-not-is_way_down.false in
    let some = c.if-self-eq0.false in
    let count : i.way ≡ suc (i.way - 1) = omega (arith, some) in
    subst (λ (w : Walking). IsVisitOfWalk w (record { system = i.system.now; waiting = c.put_below-else-not-is_way_down.new.pending.items; left = i.left.now; way = i.way - 1 }) c.in-Some.e.0 c.in-Some-at.visit) c.self.view_is
    (visit-down i.system.now c.known.ensures.sound c.in-Some.e.0 (drop 1 i.pending.items) i.pending.items i.left.now i.way c.in-Some-at.visit first c.self.invariant c.in-Some-at.ensures.seen c.put_below-else-not-is_way_down.new.pending.items put (no-token-seen i.system.now c.in-Some.e.0 (drop 1 i.pending.items) i.left.now c.in-Some-at.visit down) (i.way - 1) count)
