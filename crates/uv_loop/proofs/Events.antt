-- What an event from outside is answered, by what the memory shows.
use Rattle.uv_loop.proofs.Names.{◌≡◌, ◌+◌, ◌<◌, ◌≤◌, ℕ, if◌then◌else◌, length, nat_lt, Some, List, refl, sym, subst, ap, ◌∙◌, arith, Var, Tick, Send, Cancel, Code, Answer, Range, Program, LATEST, Place, State, live_handle, live_request, Next, Moves, Refuses, Coded, Done, send, cancel, Named, Image, StandsFor, Sends, Cancels, Leads, clock_is, names_is}
use Rattle.uv_ids.specs.declared.seen.Seen.TheVariants as seen
use Rattle.uv_model.specs.Next.{next}
use Rattle.uv_loop.proofs.Simulation.{ticked}

-- ---- names

within : (n m : ℕ) (a b : Next) → n < m → (if nat_lt n m then a else b) ≡ a
within n m a b l = grind arith

past : (n m : ℕ) (a b : Next) → m ≤ n → (if nat_lt n m then a else b) ≡ b
past n m a b l = grind arith

-- what an event of a name comes to where there is such a name, and where there is none
module _ (i : Image Place) (s : State) (v : Var) (a b : Next) (h : StandsFor i s) where
  pub is_name : v.0 < length i.names → (if nat_lt v.0 (length s.names) then a else b) ≡ a
  is_name l = subst (λ (ns : List Named). (if nat_lt v.0 (length ns) then a else b) ≡ a) (names_is h) (within v.0 (length i.names) a b l)

  pub no_name : length i.names ≤ v.0 → (if nat_lt v.0 (length s.names) then a else b) ≡ b
  no_name l = subst (λ (ns : List Named). (if nat_lt v.0 (length ns) then a else b) ≡ b) (names_is h) (past v.0 (length i.names) a b l)

-- ---- what the events do

module _ (p : Program) (i : Image Place) (s : State) (h : StandsFor i s) where
  pub tick_moves : (ms : ℕ) → i.clock + ms ≤ LATEST → next p s (Tick ms) ≡ Moves (record s { clock = i.clock + ms }) (Some (seen.Tick ms))
  unfolding next
  tick_moves ms l = let e = clock_is h in grind arith

  pub tick_refused : (ms : ℕ) → LATEST < i.clock + ms → next p s (Tick ms) ≡ Refuses Range
  unfolding next
  tick_refused ms l = let e = clock_is h in grind arith

  pub send_moves : (v : Var) → v.0 < length i.names
      → next p s (Send v) ≡ Moves (send s (live_handle s v)).state (Some (seen.Send v (send s (live_handle s v)).code))
  unfolding next
  send_moves v l = is_name i s v _ _ h l

  pub send_refused : (v : Var) → length i.names ≤ v.0 → next p s (Send v) ≡ Refuses Range
  unfolding next
  send_refused v l = no_name i s v _ _ h l

  pub cancel_moves : (v : Var) → v.0 < length i.names
      → next p s (Cancel v) ≡ Moves (cancel s (live_request s v)).state (Some (seen.Cancel v (cancel s (live_request s v)).answer))
  unfolding next
  cancel_moves v l = is_name i s v _ _ h l

  pub cancel_refused : (v : Var) → length i.names ≤ v.0 → next p s (Cancel v) ≡ Refuses Range
  unfolding next
  cancel_refused v l = no_name i s v _ _ h l

-- ---- what the steps lead to

module _ (p : Program) (i j : Image Place) where
  pub tick_leads : (ms : ℕ) → i.clock + ms ≤ LATEST → j ≡ record i { clock = i.clock + ms } → Leads p i j (Tick ms) (Some (seen.Tick ms))
  tick_leads ms l is s h reached = (
    record s { clock = i.clock + ms },
    tick_moves p i s h ms l,
    subst (λ q. StandsFor q (record s { clock = i.clock + ms })) (sym is) (ticked i s (i.clock + ms) (i.clock + ms) refl h),
  )

  pub send_leads : (v : Var) (c : Code) → v.0 < length i.names → Sends v i j c → Leads p i j (Send v) (Some (seen.Send v c))
  send_leads v c l sends s h reached =
      let t = sends s h in
      (t.0, send_moves p i s h v l ∙ ap (λ (d : Coded). Moves d.state (Some (seen.Send v d.code))) t.1, t.2)

  pub cancel_leads : (v : Var) (a : Answer) → v.0 < length i.names → Cancels v i j a → Leads p i j (Cancel v) (Some (seen.Cancel v a))
  cancel_leads v a l cancels s h reached =
      let t = cancels s h in
      (t.0, cancel_moves p i s h v l ∙ ap (λ (d : Done). Moves d.state (Some (seen.Cancel v d.answer))) t.1, t.2)
