-- What a slot's content says of its handle, and of its request.
use Rattle.std.specs.Prelude.{◌≡◌, Bool, false, Option, Some, None}
use Rattle.std.proofs.Common.{ap}
use Rattle.uv_records.specs.declared.handle.HandleRecord.{HandleRecord}
use Rattle.uv_work.specs.declared.request.Request.{Request}
use Rattle.uv_work.specs.declared.content.Content.{Content}
use Rattle.uv_work.specs.declared.content.Content.TheVariants.{Handle, Request as Asked}

-- the handle's record, if it is a handle
abbrev pub handle_of : Content → Option HandleRecord
handle_of (Handle h) = Some h
handle_of (Asked r) = None

-- the request's record, if it is a request
abbrev pub request_of : Content → Option Request
request_of (Handle h) = None
request_of (Asked r) = Some r

-- whether it is a handle that was sent to, and not called since
abbrev pub is_sent_to : Content → Bool
is_sent_to (Handle h) = h.pending
is_sent_to (Asked r) = false

-- what holds a handle's record holds nothing else, and what holds a request's neither
pub only_handle : (x : Content) (h : HandleRecord) → handle_of x ≡ Some h → x ≡ Handle h
only_handle (Handle g) h e = ap (λ (o : Option HandleRecord). elim o [ Some x ↦ Handle x | None ↦ Handle g ]) e
only_handle (Asked r) h e = ap (λ (o : Option HandleRecord). elim o [ Some x ↦ Handle x | None ↦ Asked r ]) e

pub only_request : (x : Content) (r : Request) → request_of x ≡ Some r → x ≡ Asked r
only_request (Handle h) r e = ap (λ (o : Option Request). elim o [ Some x ↦ Asked x | None ↦ Handle h ]) e
only_request (Asked q) r e = ap (λ (o : Option Request). elim o [ Some x ↦ Asked x | None ↦ Asked q ]) e
