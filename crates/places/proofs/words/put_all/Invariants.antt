-- The numbers up to the one in turn are stored.
use Rattle.std.proofs.Common.{◌≡◌, take}
use Rattle.std.proofs.lemmas.List.Edits.{sets}
use Rattle.places.specs.Words.{encode}
use Rattle.places.proofs.words.put_all.Given as goal

abbrev pub invariant-loop-i : goal.invariant-loop-i
invariant-loop-i l = l.bytes ≡ sets l.fn.bytes l.at (encode (take l.i l.numbers))
