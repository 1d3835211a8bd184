-- A content is a handle or a request, and not both.
use Rattle.std.specs.Prelude.{◌≡◌, Some, None}
use Rattle.std.proofs.Common.{refl}
use Rattle.uv_records.specs.declared.handle.HandleRecord.{HandleRecord}
use Rattle.uv_work.specs.declared.request.Request.{Request}
use Rattle.uv_work.specs.declared.content.Content.{Content}
use Rattle.uv_work.specs.declared.content.Content.TheVariants.{Handle, Request as Asked}
use Rattle.uv_work.specs.Content.{handle_of, request_of}

-- a handle is no request
pub no_request : (x : Content) (h : HandleRecord) → handle_of x ≡ Some h → request_of x ≡ None
no_request (Handle g) h e = refl
no_request (Asked r) h e = cc

-- a request is no handle
pub no_handle : (x : Content) (r : Request) → request_of x ≡ Some r → handle_of x ≡ None
no_handle (Handle h) r e = cc
no_handle (Asked q) r e = refl
