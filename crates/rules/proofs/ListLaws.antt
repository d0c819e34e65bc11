-- Laws of lists of tokens: a plain list and checked records are listed, and what a look finds. Assumes nothing.
use mathlib.Core.Path.{◌≡◌, refl}
use mathlib.Core.Bool.{Bool}
use mathlib.Core.List.{List, [], ◌∷◌}
use Prim.Native.Nat.{ℕ, zero, suc, ◌≤◌, ◌<◌}
use native.Mathlib.Omega.{arith}
use lib.ListN.{length, get_or}
use Rattle.records.specs.Names.{no_range}
use Rattle.records.specs.Tokens.{refused, token_at, last_end}
use Rattle.records.specs.declared.tokens.Token.{Token}
use Rattle.records.specs.declared.tokens.Read.TheVariants as read
use Rattle.records.specs.Checks.{first_checks}
use Rattle.records.specs.declared.checks.Checked.TheVariants as checked
use Rattle.records.proofs.CheckLaws.{passed, reads}
use Rattle.records.proofs.TokenLaws.{past_end}
use Rattle.rules.specs.Rules.{Given, Decision, Refused, seen, look}
use Rattle.rules.specs.Lists.{Listed, read_in, last_token_end, listed, in_bytes}

unfoldable pub no_token : Token
no_token = record { kind = 0; start = 0; end = 0; a = no_range; b = no_range; style = 0 }

pub read_within : (place : ℕ) (ts : List Token) (at : ℕ) → at < length ts → read_in place ts at ≡ read.Token (get_or ts at no_token)
unfolding read_in
read_within place [] at h = absurd (omega arith)
read_within place (t ∷ ts) zero h = refl
read_within place (t ∷ ts) (suc at) h = read_within place ts at (omega arith)

pub read_past : (place : ℕ) (ts : List Token) (at : ℕ) → length ts ≤ at → read_in place ts at ≡ refused 14 place
unfolding read_in
read_past place [] at h = refl
read_past place (t ∷ ts) zero h = absurd (omega arith)
read_past place (t ∷ ts) (suc at) h = read_past place ts at (omega arith)

pub plain_list : (tokens : List Token) (text : List ℕ) (keep forget : Bool) → Listed (listed tokens text keep forget)
unfolding listed
plain_list tokens text keep forget = record {
  token = λ at. get_or tokens at no_token;
  place = last_token_end tokens;
  within = read_within (last_token_end tokens) tokens;
  past = read_past (last_token_end tokens) tokens;
}

-- records that passed the first checks
pub checked_list : (b : List ℕ) (n : ℕ) (text : List ℕ) (keep forget : Bool) → first_checks b (length text) ≡ checked.Passed n
    → Listed (in_bytes b n text keep forget)
unfolding in_bytes
checked_list b n text keep forget e =
    let h = passed b (length text) n e in
    record {
      token = token_at b;
      place = last_end b;
      within = reads b (length text) n h;
      past = λ at i. past_end b (length text) at (rw h.count at i);
    }

module _ {g : Given} (l : Listed g) (at : ℕ) (k : Token → Decision) where
  pub look_within : at < g.count → look g at k ≡ k (l.token at)
  unfolding look seen
  look_within h = rw (l.within at h)

  pub look_past : g.count ≤ at → look g at k ≡ Refused 14 l.place
  unfolding look seen refused
  look_past h = rw (l.past at h)
