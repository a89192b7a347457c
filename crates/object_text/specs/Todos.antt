-- What is still to be done.
use Rattle.std.specs.Prelude.{◌<◌, List, [], ◌∷◌, ◌++◌, replicate}
use Rattle.class_system.specs.declared.ids.ExprId.{ExprId}
use Rattle.object_text.specs.declared.print_stack.Todo.{Todo}
use Rattle.object_text.specs.declared.print_stack.Todo.TheVariants.{Byte, Node, Part}
use Rattle.object_text.specs.declared.print_stack.Entry.{Entry}
use Rattle.object_text.specs.declared.print_stack.Entry.TheVariants as entry

-- An object of each node, with a space before each.
abbrev pub spaced_objects : List ExprId → List Todo
spaced_objects [] = []
spaced_objects (e ∷ es) = Byte 32 ∷ Node e ∷ spaced_objects es

-- An object of each node, with a space between each two.
abbrev pub joined_objects : List ExprId → List Todo
joined_objects [] = []
joined_objects (e ∷ es) = Node e ∷ spaced_objects es

-- What an entry stands for.
abbrev pub entry_items : Entry → List Todo
entry_items (entry.One todo) = todo ∷ []
entry_items (entry.Objects e n) = Node e ∷ spaced_objects (replicate n e)
entry_items (entry.Spaced e n) = spaced_objects (replicate n e)
entry_items (entry.Parts e n) = replicate n (Part e)

-- What entries stand for, the last entry first.
abbrev pub todos_in_order : List Entry → List Todo
todos_in_order [] = []
todos_in_order (x ∷ entries) = todos_in_order entries ++ entry_items x

-- The entry stands for something.
abbrev pub IsSomething : Entry → Type 0
IsSomething (entry.Spaced e n) = 0 < n
IsSomething (entry.Parts e n) = 0 < n
IsSomething _ = Unit {0}

-- No entry is empty.
abbrev pub AreSome : List Entry → Type 0
AreSome [] = Unit {0}
AreSome (x ∷ entries) = IsSomething x × AreSome entries
