-- The order of acts in a step, as a table: short lists where two refusals, or a refusal and a lack of places, are met, and which
-- of them is answered. Rules with these acts in another order fail a row.
use Rattle.std.specs.Prelude.{ℕ, Bool, true, false, ◌&&◌, List, [], ◌∷◌}
use Rattle.records.specs.declared.tokens.Token.{Token}
use Rattle.rules.specs.Run.{Rooms, fresh, run}
use Rattle.rules.specs.Lists.{listed}
use Rattle.rules.specs.Starred.{bare, named, tagged, Case, as_said}

-- what is lent to a list: places in the work memory, and for events
pub record Order : Type 0 where
  pub rooms : Rooms
  pub events : ℕ
  pub said : Case

unfoldable pub lent : ℕ → ℕ → ℕ → Rooms
lent opens anchors handles = record { opens = opens; anchors = anchors; handles = handles }

-- tokens and text, then number, count and place of the answer
unfoldable pub order : Rooms → ℕ → List Token → List ℕ → ℕ → ℕ → ℕ → Order
order rooms events tokens text number count place = record {
  rooms = rooms;
  events = events;
  said = record { tokens = tokens; text = text; keep = false; forget = false; number = number; count = count; place = place; picks = [] };
}

unfoldable pub in_order : Order → Case → Bool
in_order o c = as_said c (run o.rooms (listed c.tokens c.text c.keep c.forget) o.events fresh)

unfoldable pub all_in_order : List Order → Bool
all_in_order [] = true
all_in_order (o ∷ os) = in_order o o.said && all_in_order os

-- two directives with one handle: `!x!p !x!q`
unfoldable pub declared_twice : ℕ → ℕ → ℕ → Order
declared_twice handles number place =
    order (lent 9 0 handles) 9 (bare 1 0 0 ∷ tagged 4 0 3 4 ∷ tagged 4 5 8 9 ∷ [])
    (33 ∷ 120 ∷ 33 ∷ 112 ∷ 32 ∷ 33 ∷ 120 ∷ 33 ∷ 113 ∷ []) number 1 place

unfoldable pub orders : List Order
orders =
    -- 14 before 23, `--- -`: the token behind a BlockEntry is looked at before a state is opened
    order (lent 1 0 0) 9 (bare 1 0 0 ∷ bare 6 0 3 ∷ bare 9 4 4 ∷ bare 16 4 5 ∷ []) [] 14 3 5
    -- 23 before 8, `[:`: a state is opened before its node
    ∷ order (lent 1 0 0) 9 (bare 1 0 0 ∷ bare 12 0 1 ∷ bare 19 1 2 ∷ []) [] 23 3 0
    -- 23 before 22, `a`: the event is stored last
    ∷ order (lent 0 0 0) 1 (bare 1 0 0 ∷ named 23 0 1 ∷ []) (97 ∷ []) 23 1 0
    -- 24 before 13, `&a !x!y`: the first property comes first
    ∷ order (lent 9 0 0) 9 (bare 1 0 0 ∷ named 21 1 2 ∷ tagged 22 3 6 7 ∷ []) (38 ∷ 97 ∷ 32 ∷ 33 ∷ 120 ∷ 33 ∷ 121 ∷ []) 24 2 0
    -- 13 before 24, ` !x!y &a`
    ∷ order (lent 9 0 0) 9 (bare 1 0 0 ∷ tagged 22 1 4 5 ∷ named 21 7 8 ∷ []) (32 ∷ 33 ∷ 120 ∷ 33 ∷ 121 ∷ 32 ∷ 38 ∷ 97 ∷ []) 13 2 1
    -- 24 before 14, `&a`: the name is put in before the next token is looked at
    ∷ order (lent 9 0 0) 9 (bare 1 0 0 ∷ named 21 1 2 ∷ []) (38 ∷ 97 ∷ []) 24 2 0
    -- 4 before 25: a handle that is there wants no place
    ∷ declared_twice 1 4 5
    -- 25 before 4 at a later directive: a place is wanted at each directive
    ∷ declared_twice 0 25 0
    -- 25 before 2, `!x!p`: and not when the directives are over
    ∷ order (lent 9 0 0) 9 (bare 1 0 0 ∷ tagged 4 0 3 4 ∷ bare 2 4 4 ∷ []) (33 ∷ 120 ∷ 33 ∷ 112 ∷ []) 25 1 0
    -- no 24, `[&a,&a]`: a name that is there wants no place
    ∷ order (lent 9 1 0) 9 (bare 1 0 0 ∷ bare 12 0 1 ∷ named 21 2 3 ∷ bare 17 3 4 ∷ named 21 5 6 ∷ bare 13 6 7 ∷ bare 2 7 7 ∷ []) (91 ∷ 38 ∷ 97 ∷ 44 ∷ 38 ∷ 97 ∷ 93 ∷ []) 0 8 0
    ∷ []
