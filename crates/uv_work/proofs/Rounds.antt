-- The digest of one round, and of one round more.
use Rattle.std.proofs.Common.{◌≡◌, ℕ, ◌+◌, List, refl, add-one}
use Rattle.sha2.specs.Sha256.{sha256}
use Rattle.uv_work.specs.Digests.{digest_of}

pub first_round : (text : List ℕ) → digest_of 1 text ≡ sha256 text
unfolding digest_of
first_round text = refl

pub one_round_more : (n : ℕ) (text : List ℕ) → digest_of (n + 1) text ≡ sha256 (digest_of n text)
unfolding digest_of
one_round_more n text = rw (add-one n) refl
