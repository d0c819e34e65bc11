-- The document states, as the code hands on what they find.
use Rattle.std.specs.Prelude.{ℕ, ◌+◌, ◌-◌, Bool, true, false, List, [], ◌∷◌, ltb, leb, length}
use Rattle.places.specs.Places.{places}
use Rattle.records.specs.Names.{same_name}
use Rattle.records.specs.Tokens.{token_size, read_at}
use Rattle.records.specs.declared.names.Range.{Range}
use Rattle.records.specs.declared.tokens.Token.{Token}
use Rattle.records.specs.declared.tokens.Read.{Read}
use Rattle.records.specs.declared.tokens.Read.TheVariants as read
use Rattle.tables.specs.Handles.{handle_size, named}
use Rattle.tables.specs.Lookup.{find}
use Rattle.tables.specs.declared.lookup.Found.{Found}
use Rattle.tables.specs.declared.lookup.Found.TheVariants as found
use Rattle.rules.specs.Lists.{in_bytes}
use Rattle.rules.specs.Rules.{declare, after_directives}
use Rattle.rules.specs.Rules.Words as r
use Rattle.rules.specs.Rules.Words.{choose◌then◌else◌, is, first, hit?}
use Rattle.parser.specs.Machine.{Lent}
use Rattle.parser.specs.Answers.{refusing, decided}
use Rattle.parser.specs.declared.Machine.{Machine}
use Rattle.parser.specs.declared.Handles.{Handles}
use Rattle.parser.specs.declared.Handles.TheVariants as h
use Rattle.parser.specs.declared.Step.TheVariants as st
use Rattle.parser.specs.declared.directives.Directive.{Directive}
use Rattle.parser.specs.declared.directives.Directive.TheVariants as d

-- a list with no setting
unfoldable pub unset : List ℕ → List ℕ → r.Given
unset tokens text = in_bytes tokens (places tokens token_size) text false false

-- byte order marks and, with `ends`, document ends
unfoldable pub marks : Bool → List ℕ
marks true = r.DOCUMENT_END ∷ r.BYTE_ORDER_MARK ∷ []
marks false = r.BYTE_ORDER_MARK ∷ []

unfoldable pub tags_of : Handles → r.Tags
tags_of h.Keep = r.TagsKept
tags_of (h.Declare i j) = r.TagsDeclared i j
tags_of h.Forget = r.TagsForgotten

-- whether a record is a TagDirective with this handle
unfoldable pub told : List ℕ → Range → Read → Bool
told text name (read.Refused e) = false
told text name (read.Token t) = choose is t r.TAG_DIRECTIVE then same_name text t.a name else false

-- one handle more behind `used`, or one that is kept already
unfoldable pub counted : ℕ → Found → Bool → ℕ → Directive
counted room (found.At i) version used = choose leb used room then d.On version used else d.Done (refusing 25 0)
counted room found.Nothing version used = choose ltb used room then d.On version (used + 1) else d.Done (refusing 25 0)

unfoldable pub tag_directive : Lent → Machine → ℕ → ℕ → Bool → ℕ → Token → Directive
tag_directive x m from at version used t =
    choose hit? (first (named x.text t.a) (declare (unset x.tokens x.text) (at - from) from []))
    then d.Done (refusing 4 t.start)
    else counted x.terms.handles (find x.text x.tags handle_size m.handles t.a) version used

-- what the record at `at` is behind the directives from `from` on
unfoldable pub directive_read : Lent → Machine → ℕ → ℕ → Bool → ℕ → Read → Directive
directive_read x m from at version used (read.Refused e) = d.Done (st.Refused e)
directive_read x m from at version used (read.Token t) =
    choose is t r.VERSION_DIRECTIVE then (choose version then d.Done (refusing 3 t.start) else d.On true used)
    else choose is t r.TAG_DIRECTIVE then tag_directive x m from at version used t
    else choose is t r.RESERVED_DIRECTIVE then d.On version used
    else d.Done (decided x m (λ g m. after_directives g m from at))

unfoldable pub directive : Lent → Machine → ℕ → ℕ → Bool → ℕ → Directive
directive x m from at version used =
    directive_read x m from at version used (read_at x.tokens (length x.text) at)
