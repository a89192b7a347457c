-- Open lists as the code keeps them: one list of tokens, in which each open list has the place of
-- the token that will tell its number of parts.
use Rattle.std.specs.Prelude.{◌+◌, ◌<◌, List, [], ◌∷◌, length, take, drop}
use Rattle.object_store.specs.declared.token.Token.{Token}
use Rattle.object_text.specs.declared.parsed.OpenList as code
use Rattle.object_text.specs.Taken.{OpenList}

-- The tokens behind the innermost list's place.
abbrev pub inner_tokens : List code.OpenList → List Token → List Token
inner_tokens [] tokens = tokens
inner_tokens (l ∷ lists) tokens = drop (l.slot + 1) tokens

-- The open lists, each with the tokens between its place and that of the list around it.
abbrev pub open_lists : List code.OpenList → List Token → List OpenList
open_lists [] tokens = []
open_lists (l ∷ lists) tokens =
    record {
      kind = l.kind;
      tokens = inner_tokens lists (take l.slot tokens);
      least =
          l.least;
      mark = l.mark;
    } ∷ open_lists lists (take l.slot tokens)

-- Each list's place is one of the tokens before those of the lists within it.
abbrev pub AreSlots : List code.OpenList → List Token → Type 0
AreSlots [] tokens = Unit {0}
AreSlots (l ∷ lists) tokens = (l.slot < length tokens) × AreSlots lists (take l.slot tokens)
