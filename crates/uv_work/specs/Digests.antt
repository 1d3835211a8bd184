-- The digest of a job.
use Rattle.std.specs.Prelude.{ℕ, suc, zero, List}
use Rattle.sha2.specs.Sha256.{sha256}

-- SHA-256 (FIPS 180-4), so many times: the first round takes the text, each further one the digest before it
unfoldable pub digest_of : ℕ → List ℕ → List ℕ
digest_of zero text = text
digest_of (suc rounds) text = sha256 (digest_of rounds text)
