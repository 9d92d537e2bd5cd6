-- What a local call does: it refuses, or writes its socket's record.
use Prim.Native.Nat.{ℕ}
use Rattle.links.specs.declared.Answer.{Answer}
use Rattle.std.specs.Prelude.{Result, Ok, Err}
use Prim.Native.String.{String}
use mathlib.Core.Bool.{Bool, true, false, ◌&&◌}
use mathlib.Core.List.{List}
use mathlib.Core.Path.{◌≡◌, refl, sym, ap, ◌∙◌}
use lib.Dec.{eqb, leb}
use lib.ListN.{length, get_or, length-set}
use lib.Seq.{get_or-set_same, get_or-set_other, set-get_or, set_out}
use borrow.Author.Tests.{eqb-true, eqb-false, leb-true, leb-false}
use Rattle.octets.specs.Told.{answered}
use Rattle.octets.proofs.Tables.{other-told}
use Rattle.octets.proofs.Tests.{cases, both_hold}
use Rattle.octets.specs.Lengths.{is_length}
use Rattle.transactions.specs.Numbers.{is_socket, socket_place}
use Rattle.transactions.specs.Segments.{seg_n}
use Rattle.transactions.specs.declared.Socket.{Socket}
use Rattle.links.specs.Links.{blank, blank_with, with_sending, in_use, find, told}
use Rattle.links.specs.Good.{good}
use Rattle.links.specs.Station.{no_link, link_at, with_link, judged, is_found, local_open, is_open, local_send, local_close}
use Rattle.links.specs.declared.Side.{Side}
use Rattle.links.specs.declared.LinkState.TheVariants as S
use Rattle.links.specs.declared.Link.{Link}
use Rattle.links.specs.declared.Refusal.{Refusal}
use Rattle.links.specs.declared.Refusal.TheVariants as R
use Rattle.links.specs.declared.Answer.TheVariants as A

module _ (side : Side) (ls : List Link) (socket : Socket) where
  -- a local call refuses and changes nothing, or answers a and writes l for its socket's record; it does that only where C is so
  pub data Calls (C : Type 0) (a : Result Answer Refusal) (l : Link) (r : Result Answer Refusal × List Link) : Type 0 where
    refusal : (q : Refusal) → r ≡ (Err q, ls) → Calls C a l r
    written : is_socket socket (length ls) ≡ true → good side ls ≡ true → C → r ≡ (a, with_link ls socket l) → Calls C a l r

  judged-calls : {C : Type 0} {a : Result Answer Refusal} {l : Link} (right : Bool) (step : Result Answer Refusal × List Link) → (right ≡ true → good side ls ≡ true → Calls C a l step)
      → Calls C a l (judged side ls right step)
  judged-calls right step h =
      cases right (λ e. rw e (cases (good side ls) (λ g. rw g (h e g)) (λ g. rw g (refusal R.BadState refl)))) (λ e. rw e (refusal R.WrongArgument refl))

  pub open-calls : (id : ℕ) → Calls (is_found (find ls id) ≡ false) (Ok A.Done) (blank_with side S.Opening id) (local_open side ls socket id)
  unfolding local_open
  open-calls id =
      judged-calls (is_socket socket (length ls)) _
      (λ r g. cases (in_use (link_at ls socket).state) (λ e. rw e (refusal R.SocketInUse refl))
      (λ e. rw e (cases (is_found (find ls id)) (λ u. rw u (refusal R.LinkIdInUse refl)) (λ u. rw u (written r g refl refl)))))

  -- a refusal by the step of the socket's record
  record-refuses : {C : Type 0} {a : Result Answer Refusal} {l : Link} (q : Refusal) → Calls C a l (Err q, with_link ls socket (link_at ls socket))
  record-refuses q = refusal q (rw (set-get_or ls (socket_place socket) no_link))

  -- the record with its outstanding mark set
  abbrev pub sending : Link
  sending = with_sending (link_at ls socket) (link_at ls socket).next true

  pub send-calls : (n : ℕ) → Calls (is_open (link_at ls socket).state ≡ true) (Ok (A.Sending (link_at ls socket).next (seg_n n))) sending (local_send side ls socket n)
  unfolding local_send
  send-calls n =
      judged-calls (is_socket socket (length ls) && is_length n) _
      (λ r g. cases (is_open (link_at ls socket).state)
      (λ e. rw e (cases (link_at ls socket).outstanding (λ u. rw u (record-refuses R.Outstanding))
      (λ u. rw u (written (both_hold {a = is_socket socket (length ls)} {b = is_length n} r).0 g refl refl))))
      (λ e. rw e (record-refuses R.NotOpen)))

  pub close-calls : Calls (in_use (link_at ls socket).state ≡ true) (Ok A.Done) (blank side) (local_close side ls socket)
  unfolding local_close
  close-calls =
      judged-calls (is_socket socket (length ls)) _
      (λ r g. cases (in_use (link_at ls socket).state) (λ e. rw e (written r g refl refl)) (λ e. rw e (record-refuses R.NotOpen)))

  -- an Open of a socket in use, and a Close of a socket that there isn't, change nothing
  pub open-used : (id : ℕ) → in_use (link_at ls socket).state ≡ true → (local_open side ls socket id).1 ≡ ls
  unfolding local_open
  open-used id u = cases (is_socket socket (length ls)) (λ r. rw r (cases (good side ls) (λ g. rw (g, u)) (λ g. rw g))) (λ r. rw r)

  pub close-nowhere : is_socket socket (length ls) ≡ false → (local_close side ls socket).1 ≡ ls
  unfolding local_close
  close-nowhere e = rw e

  -- whatever holds of the records as they were, and with that record written, holds afterwards
  holds : {C : Type 0} {a : Result Answer Refusal} {l : Link} {r : Result Answer Refusal × List Link} (P : List Link → Type 0) → P ls → P (with_link ls socket l) → Calls C a l r → P r.1
  holds P same changed (refusal q e) = rw e same
  holds P same changed (written r g c e) = rw e changed

  -- an answer that is no refusal
  pub written-by : {C : Type 0} {a : Result Answer Refusal} {l : Link} {r : Result Answer Refusal × List Link} → Calls C a l r
      → (word : String) (values : List ℕ) → told r.0 ≡ answered word values → r.1 ≡ with_link ls socket l
  written-by (refusal q e) word values h = other-told _ _ refl (sym (ap (λ (r : Result Answer Refusal × List Link). told r.0) e) ∙ h)
  written-by (written r g c e) word values h = ap (λ (r : Result Answer Refusal × List Link). r.1) e

-- ---- the number of records stays

module _ (side : Side) (ls : List Link) (socket : Socket) where
  abbrev AsMany : List Link → Type 0
  AsMany more = length more ≡ length ls

  pub open-count : (id : ℕ) → AsMany (local_open side ls socket id).1
  open-count id = holds side ls socket AsMany refl (length-set ls (socket_place socket) _) (open-calls side ls socket id)

  pub send-count : (n : ℕ) → AsMany (local_send side ls socket n).1
  send-count n = holds side ls socket AsMany refl (length-set ls (socket_place socket) _) (send-calls side ls socket n)

  pub close-count : AsMany (local_close side ls socket).1
  close-count = holds side ls socket AsMany refl (length-set ls (socket_place socket) _) (close-calls side ls socket)

-- ---- the record of place s, for any relation between records before and after that every record has to itself

module _ (R : Link → Link → Type 0) (same : (l : Link) → R l l) (side : Side) (ls : List Link) (socket : Socket) (s : ℕ) where
  abbrev After : List Link → Type 0
  After more = R (get_or ls s no_link) (get_or more s no_link)

  unchanged : After ls
  unchanged = same (get_or ls s no_link)

  set_after : (l : Link) → R (link_at ls socket) l → After (with_link ls socket l)
  set_after l h =
      let i = socket_place socket in
      cases (eqb i s)
      (λ e. let q : i ≡ s = eqb-true i s e in
      rw (← q) (cases (leb (length ls) i)
      (λ b. rw (set_out ls i l (leb-true (length ls) i b)) (same (get_or ls i no_link)))
      (λ b. rw (get_or-set_same ls i l no_link (leb-false (length ls) i b)) h)))
      (λ e. rw (get_or-set_other ls i s l no_link (λ q. eqb-false i s e (sym q))) unchanged)

  pub open_after : (id : ℕ) → ((l : Link) → R l (blank_with side S.Opening id)) → After (local_open side ls socket id).1
  open_after id h = holds side ls socket After unchanged (set_after _ (h (link_at ls socket))) (open-calls side ls socket id)

  pub send-after : (n : ℕ) → ((l : Link) → R l (with_sending l l.next true)) → After (local_send side ls socket n).1
  send-after n h = holds side ls socket After unchanged (set_after _ (h (link_at ls socket))) (send-calls side ls socket n)

  pub close-after : ((l : Link) → R l (blank side)) → After (local_close side ls socket).1
  close-after h = holds side ls socket After unchanged (set_after _ (h (link_at ls socket))) (close-calls side ls socket)
