-- A handle is added, or gets another record.
use Rattle.uv_handle.proofs.Names.{◌≡◌, ℕ, ◌+◌, Option, Some, option_and_then, refl, sym, ap, ◌∙◌, arith, Id, Var, Kind, HandleRecord, inited, keeps_alive, one_if, keeps_in, InsertUndo, Image, IsSound, IsInserted, IsSet, content_is, counted, alive_count, record_at, Fits32, IsAdded, IsChanged}
use Rattle.uv_handle.proofs.Counts.{count_below, count_changed, count_inserted}

module _ {X : Type 0} (read : X → Option HandleRecord) (make : HandleRecord → X) (gives_back : (r : HandleRecord) → read (make r) ≡ Some r) where
  abbrev kept : Option HandleRecord → ℕ
  kept o = one_if (keeps_in o)

  -- ---- added

  add_count : (i j : Image X) (n : ℕ) (h : HandleRecord) (d : Id) (u : InsertUndo) → n ≡ alive_count read i → IsInserted i j (make h) d u
      → alive_count read j ≡ n + one_if (keeps_alive h)
  add_count i j n h d u is ins = let c = count_inserted read i j (make h) d u ins in let same = ap kept (gives_back h) in omega (arith, c, same, is)

  pub add_fits : (i j : Image X) (n : ℕ) (h : HandleRecord) (d : Id) (u : InsertUndo) → n ≡ alive_count read i → IsInserted i j (make h) d u
      → IsSound j → Fits32 n 0 (one_if (keeps_alive h))
  add_fits i j n h d u is ins s =
      let c = add_count i j n h d u is ins in let below = count_below read j s in
      (alive_count read j, omega (arith, c), omega (arith, below))

  pub added : (i j : Image X) (n m : ℕ) (name : Var) (kind : Kind) (d : Id) (u : InsertUndo) → n ≡ alive_count read i
      → IsInserted i j (make (inited name kind)) d u
      → m + 0 ≡ n + one_if (keeps_alive (inited name kind)) → IsAdded read make (counted i n) (counted j m) name kind d (record {
        inserted = u;
        active = n;
      })
  added i j n m name kind d u is ins e =
      let c = add_count i j n (inited name kind) d u is ins in
      record {
        inserted = ins;
        handle = ap (option_and_then read) ins.now ∙ gives_back (inited name kind);
        counts = omega (arith, c, e);
        undone = ap (λ z. counted z n) ins.undone;
        can_undo = record { inserted = ins.can_undo; counts = is ∙ ap (alive_count read) (sym ins.undone) };
      }

  -- ---- another record

  module _ (only_that : (t : X) (r : HandleRecord) → read t ≡ Some r
      → t ≡ make r) (i : Image X) (d : Id) (old : HandleRecord) (there : record_at read i d ≡ Some old) where
    change_count : (j : Image X) (n : ℕ) (new : HandleRecord) → n ≡ alive_count read i → IsSet i j d (make new) (make old)
        → alive_count read j + one_if (keeps_alive old) ≡ n + one_if (keeps_alive new)
    change_count j n new is set =
        let c = count_changed read i j d (make new) (make old) (content_is read make only_that i d old there) set in
        let one = ap kept (gives_back old) in let two = ap kept (gives_back new) in omega (arith, c, one, two, is)

    pub change_fits : (j : Image X) (n : ℕ) (new : HandleRecord) → n ≡ alive_count read i → IsSet i j d (make new) (make old) → IsSound j
        → Fits32 n (one_if (keeps_alive old)) (one_if (keeps_alive new))
    change_fits j n new is set s = let below = count_below read j s in (alive_count read j, change_count j n new is set, omega (arith, below))

    pub changed : (j : Image X) (n m : ℕ) (new : HandleRecord) → n ≡ alive_count read i → IsSet i j d (make new) (make old)
        → m + one_if (keeps_alive old) ≡ n + one_if (keeps_alive new)
        → IsChanged read make (counted i n) (counted j m) d old new (record { slot = d.slot; active = n; old = old })
    changed j n m new is set e =
        let c = change_count j n new is set in
        record {
          set = set;
          handle = ap (option_and_then read) set.now ∙ gives_back new;
          slot = refl;
          counts = omega (arith, c, e);
          undone = ap (λ z. counted z n) set.undone;
          can_undo = record { content = set.can_undo; counts = is ∙ ap (alive_count read) (sym set.undone) };
        }
