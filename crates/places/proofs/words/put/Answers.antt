-- The 4 bytes are written over those from `at`.
use Rattle.std.proofs.Common.{◌≡◌, refl, sym, ◌∙◌, ◌/◌, ◌%◌, ◌+◌, ◌-◌, take, append_assoc, arith}
use Rattle.std.proofs.lemmas.List.Edits.{sets-eq, paste_all}
use Rattle.std.proofs.lemmas.Slice.{put_mid-paste}
use Rattle.places.specs.Words.{le}
use Rattle.places.proofs.words.put.Goals as goal

pub returns : goal.returns
unfolding le
returns c =
    let a = c.args in
    let top : a.n / 16777216 % 256 ≡ a.n / 16777216 = omega (arith, c.ranges.n.fits) in
    put_mid-paste a.at (a.at + 4 - a.at) a.bytes.now _ (le a.n) 4 (rw (← top) (c.copy_from_slice.ensures.after ∙ c.to_le_bytes.ensures)) (omega arith) refl
    ∙ paste_all a.bytes.now a.at (le a.n) 4 refl
    ∙ sym (sets-eq (le a.n) a.bytes.now a.at c.requires ∙ append_assoc (take a.at a.bytes.now) (le a.n) _)
