-- How forms are laid out: task by task, the forms that are laid out so far standing in a list.
use Rattle.std.specs.Prelude.{◌≡◌, ℕ, zero, suc, ◌-◌, ◌<◌, List, [], ◌∷◌, ◌++◌, Bool, map, take}
use Rattle.std.specs.Prelude.{drop, length, replicate, option_to_list, if◌then◌else◌}
use Rattle.std.specs.List.{AllByRecursion}
use Rattle.bz_model.specs.Spec.{Spec, Mode}
use Rattle.class_system.specs.declared.ids.ExprId.{ExprId}
use Rattle.well_founded.specs.EmptyObjects.{answer_at}
use Rattle.pointing.specs.Forms.{Form, parts_from, form_at}
use Rattle.pointing.specs.PointedForm.{pointed, copied}
use Rattle.pointing.specs.LaidOut.{laid_each, tops, all_nodes, plain}
use Rattle.pointing.specs.declared.tasks.Task.{Task}
use Rattle.pointing.specs.declared.tasks.Task.TheVariants as task

-- The last n forms are put together.
abbrev pub put_together : (join : List Form → List Form) → (n : ℕ) → List Form → List Form
put_together join n fs = take (length fs - n) fs ++ join (drop (length fs - n) fs)

-- The last n forms become their union, where there are two or more.
abbrev pub union_of_last : ℕ → List Form → List Form
union_of_last zero fs = fs
union_of_last (suc zero) fs = fs
union_of_last n fs = put_together (λ gs. Form.Union (parts_from gs) ∷ []) n fs

-- The forms after a task, from those before it.
abbrev pub after_task : Spec → (classes : List Bool) → Task → List Form → List Form
after_task s classes (task.Copy e) fs = fs ++ copied classes (form_at s e.0) ∷ []
after_task s classes (task.Point e) fs = fs ++ option_to_list (pointed classes (form_at s e.0))
after_task s classes (task.Union n) fs =
    put_together (λ gs. Form.Union (parts_from gs) ∷ []) n fs
after_task s classes (task.Product n) fs =
    put_together (λ gs. Form.Product (parts_from gs) ∷ []) n fs
after_task s classes task.Seq fs = put_together (map Form.Seq) 1 fs
after_task s classes (task.Choice n) fs = union_of_last n fs

-- The forms after some tasks, one after the other.
abbrev pub after_tasks : Spec → (classes : List Bool) → List Task → List Form → List Form
after_tasks s classes [] fs = fs
after_tasks s classes (t ∷ ts) fs = after_tasks s classes ts (after_task s classes t fs)

-- A draft, and the numbers of the nodes of the forms that are laid out in it.
pub record Layout : Type 0 where
  pub draft : Spec
  pub numbers : List ℕ

-- The draft has these names and no bodies, and its nodes are those of these forms.
pub record IsLayout (names : List (List ℕ)) (fs : List Form) (l : Layout) : Type 0 where
  pub unlabelled : l.draft.mode ≡ Mode.Unlabelled
  pub named : l.draft.names ≡ names
  pub no_bodies : l.draft.bodies ≡ []
  pub nodes : l.draft.nodes ≡ laid_each 0 (parts_from fs)
  pub ranges : l.draft.ranges ≡ replicate (all_nodes (parts_from fs)) plain
  pub numbered : l.numbers ≡ tops 0 (parts_from fs)

-- The node that the task names, if it names one, is among the first n.
abbrev pub IsInside : ℕ → Task → Type 0
IsInside n (task.Copy e) = e.0 < n
IsInside n (task.Point e) = e.0 < n
IsInside n _ = Unit {0}

-- The product of n parts, one of them pointed and those before and after it copied.
abbrev pub alternative : ℕ → (before : List ExprId) → ExprId → (later : List ExprId) → List Task
alternative n before part later =
    (map task.Copy before ++ task.Point part ∷ map task.Copy later) ++ task.Product n ∷ []

-- For each marked part, the product of n parts with it pointed, where some parts stand before all
-- these.
abbrev pub alternatives : ℕ → (marks : List Bool) → (before parts : List ExprId) → List Task
alternatives n marks before [] = []
alternatives n marks before (part ∷ later) =
    (if answer_at marks part.0 then alternative n before part later else [])
    ++ alternatives n marks (before ++ part ∷ []) later

-- A task was done, or others put in its place: from any forms, the tasks that are left make the
-- same forms.
pub record IsTaskDone (s : Spec) (classes : List Bool) (done : Task) (left now : List Task)
    (before after : Layout) : Type 0 where
  pub inside : AllByRecursion (IsInside (length s.nodes)) left
      → AllByRecursion (IsInside (length s.nodes)) now
  pub same : (names : List (List ℕ)) (fs : List Form) → IsLayout names fs before
      → (gs : List Form) × IsLayout names gs after
      × (after_tasks s classes now gs ≡ after_tasks s classes left (after_task s classes done fs))
