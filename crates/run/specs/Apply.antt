-- Contracts of the functions that apply a step: what it leaves in the lent bytes, read as the rules' lists, where there are places
-- enough; and what was zero behind the places in use is zero behind those that are in use afterwards. Who reads `Run` needs none
-- of them.
use Rattle.std.specs.Prelude.{◌≡◌, ℕ, suc, ◌-◌, ◌≤◌, Bool, List, [], ◌∷◌, length}
use Rattle.places.specs.Places.{places, cleared_places, Unused}
use Rattle.records.specs.Tokens.{token_size}
use Rattle.tables.specs.Tables.{stack, entered}
use Rattle.tables.specs.States.{state_size, state_at}
use Rattle.tables.specs.Anchors as anchors
use Rattle.tables.specs.Handles as handles
use Rattle.tables.specs.Lookup.{find, place_for}
use Rattle.tables.specs.declared.anchors.Anchor.{Anchor}
use Rattle.tables.specs.declared.handles.Handle.{Handle}
use Rattle.tables.specs.Anchors.{anchor_size}
use Rattle.tables.specs.Handles.{handle_size}
use Rattle.rules.specs.Rules.{declare}
use Rattle.rules.specs.Lists.{in_bytes}
use Rattle.rules.specs.States.{back}
use Rattle.rules.specs.declared.State.{State}
use Rattle.parser.specs.declared.Machine.{Machine}
use Rattle.parser.specs.declared.Open.{Open}
use Rattle.parser.specs.declared.Open.TheVariants as o
use Rattle.parser.specs.declared.Names.{Names}
use Rattle.parser.specs.declared.Names.TheVariants as name
use Rattle.parser.specs.declared.Handles.{Handles}
use Rattle.parser.specs.declared.Handles.TheVariants as tag
use Rattle.parser.specs.declared.Stepped.{Stepped}
use Rattle.run.specs.declared.apply.Opened.{Opened}
use Rattle.run.specs.declared.apply.Opened.TheVariants as opened
use Rattle.run.specs.declared.apply.Applied.{Applied}
use Rattle.run.specs.declared.apply.Applied.TheVariants as applied

-- the n open states, the last on top
unfoldable pub opens_of : List ℕ → ℕ → List State
opens_of b n = stack (λ i. back (state_at b i)) n

unfoldable pub stands : State → ℕ → Opened
stands state depth = opened.At (record { state = state; depth = depth })

-- a state over open ones, or a pop that found none
pub data Stood : Type 0 where
  Over : State → List State → Stood
  Empty : Stood

unfoldable pub stood : List ℕ → Opened → Stood
stood b (opened.At s) = Over s.state (opens_of b s.depth)
stood b opened.Nothing = Empty

-- how many are open then
unfoldable pub depth_of : Opened → ℕ
depth_of (opened.At s) = s.depth
depth_of opened.Nothing = 0

unfoldable pub popped : List State → Stood
popped [] = Empty
popped (state ∷ stack) = Over state stack

unfoldable pub opening : Open → State → List State → Stood
opening o.Keep state stack = Over state stack
opening (o.Push p) state stack = Over state (p ∷ stack)
opening o.Pop state stack = popped stack

-- the places that are used
unfoldable pub deep : Open → ℕ → ℕ
deep o.Keep n = n
deep (o.Push p) n = suc n
deep o.Pop n = n

pub record Pushed (before : List ℕ) (n : ℕ) (p : State) (r : ℕ) (after : List ℕ) : Type 0 where
  pub stack : suc n ≤ places before state_size → opens_of after r ≡ p ∷ opens_of before n
  pub unused : Unused before state_size n → Unused after state_size r

pub record Popping (before : List ℕ) (n : ℕ) (r : Opened) (after : List ℕ) : Type 0 where
  pub stack : n ≤ places before state_size → stood after r ≡ popped (opens_of before n)
  pub unused : n ≤ places before state_size → Unused before state_size n → Unused after state_size (depth_of r)

pub record Opening (before : List ℕ) (state : State) (n : ℕ) (change : Open) (r : Opened) (after : List ℕ) : Type 0 where
  pub stack : deep change n ≤ places before state_size → stood after r ≡ opening change state (opens_of before n)
  pub unused : deep change n ≤ places before state_size → Unused before state_size n → Unused after state_size (depth_of r)

-- an anchor in the place that the search gives
pub record NamePut (before : List ℕ) (n i : ℕ) (a : Anchor) (r : ℕ) (after : List ℕ) : Type 0 where
  pub table :
      (text : List ℕ) → i ≡ place_for (find text before anchor_size n a.name) n
      → length (entered (anchors.named text a.name) a (anchors.anchors_of before n)) ≤ places before anchor_size
      → anchors.anchors_of after r ≡ entered (anchors.named text a.name) a (anchors.anchors_of before n)
  pub unused : i ≤ n → Unused before anchor_size n → Unused after anchor_size r

unfoldable pub Naming : List ℕ → ℕ → Names → ℕ → List ℕ → Type 0
Naming before n name.Keep r after =
    (anchors.anchors_of after r ≡ anchors.anchors_of before n) × (Unused before anchor_size n → Unused after anchor_size r)
Naming before n (name.Put i a) r after = NamePut before n i a r after
Naming before n name.Forget r after =
    (after ≡ cleared_places before anchor_size n) × (anchors.anchors_of after r ≡ []) × (n ≤ places before anchor_size → Unused before anchor_size n → Unused after anchor_size r)

unfoldable pub numbered : ℕ → Names → ℕ
numbered next name.Keep = next
numbered next (name.Put i a) = suc next
numbered next name.Forget = next

pub record Entering (text before : List ℕ) (n : ℕ) (x : Handle) (r : ℕ) (after : List ℕ) : Type 0 where
  pub table :
      length (entered (handles.named text x.name) x (handles.handles_of before n)) ≤ places before handle_size
      → handles.handles_of after r ≡ entered (handles.named text x.name) x (handles.handles_of before n)
  pub unused : Unused before handle_size n → Unused after handle_size r

-- the handles of the k tokens from `at` on
pub record Declaring (tokens text before : List ℕ) (n at k r : ℕ) (after : List ℕ) : Type 0 where
  pub table :
      (keep forget : Bool)
      → length (declare (in_bytes tokens (places tokens token_size) text keep forget) k at (handles.handles_of before n)) ≤ places before handle_size
      → handles.handles_of after r ≡ declare (in_bytes tokens (places tokens token_size) text keep forget) k at (handles.handles_of before n)
  pub unused : Unused before handle_size n → Unused after handle_size r

unfoldable pub Handling : List ℕ → List ℕ → List ℕ → ℕ → Handles → ℕ → List ℕ → Type 0
Handling tokens text before n tag.Keep r after =
    (handles.handles_of after r ≡ handles.handles_of before n) × (Unused before handle_size n → Unused after handle_size r)
Handling tokens text before n (tag.Declare i j) r after = Declaring tokens text before n i (j - i) r after
Handling tokens text before n tag.Forget r after =
    (after ≡ cleared_places before handle_size n) × (handles.handles_of after r ≡ []) × (n ≤ places before handle_size → Unused before handle_size n → Unused after handle_size r)

unfoldable pub advanced : Machine → Opened → ℕ → ℕ → ℕ → Applied
advanced m (opened.At s) names handles next =
    applied.Next (record { state = s.state; at = m.at; depth = s.depth; names = names; handles = handles; next = next })
advanced m opened.Nothing names handles next = applied.Stuck

pub record Applying (tokens text states anchors handles : List ℕ) (s : Stepped) (r : Applied) (states' anchors' handles' : List ℕ) : Type 0 where
  pub opened : Opened
  pub names : ℕ
  pub used : ℕ
  pub result : r ≡ advanced s.machine opened names used (numbered s.machine.next s.names)
  pub opening : Opening states s.machine.state s.machine.depth s.states opened states'
  pub naming : Naming anchors s.machine.names s.names names anchors'
  pub handling : Handling tokens text handles s.machine.handles s.handles used handles'
