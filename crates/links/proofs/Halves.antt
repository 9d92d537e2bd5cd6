-- The halves of the numbers (`specs/Promises.antt`), and a link that is ready, in numbers.
use Prim.Native.Nat.{ℕ, ◌+◌, ◌-◌, ◌<◌}
use Rattle.links.specs.declared.Answer.{Answer}
use Rattle.links.specs.declared.Refusal.{Refusal}
use Rattle.std.specs.Prelude.{Some, Result, Ok, Err}
use native.Mathlib.Omega.{arith}
use mathlib.Core.List.{List, [], ◌∷◌}
use mathlib.Core.Bool.{true}
use mathlib.Core.Path.{◌≡◌, refl, sym, ap, ◌∙◌, subst}
use lib.ListN.{length, set}
use lib.Seq.{get_or-set_same}
use Rattle.octets.specs.Numbers.{Octets}
use Rattle.octets.specs.Told.{answered}
use Rattle.octets.proofs.Tables.{other-told}
use Rattle.transactions.specs.Segments.{seg_n}
use Rattle.transactions.specs.declared.TransactionNumber.{TransactionNumber}
use Rattle.transactions.specs.declared.Socket.{Socket}
use Rattle.pb_adv.specs.Frame.{parsed}
use Rattle.links.specs.Links.{End, side_of, peer, told}
use Rattle.links.specs.Bad.{InHalf}
use Rattle.links.specs.Station.{Station, no_link, get_link, put_link, received, link_at, is_open, local_send}
use Rattle.links.specs.Promises.{Halves}
use Rattle.links.specs.Demand3.{Message, ReadyFor, Ready}
use Rattle.links.specs.Tables.{leaves}
use Rattle.links.specs.declared.Side.{Side}
use Rattle.links.specs.declared.Link.{Link}
use Rattle.links.specs.declared.Answer.TheVariants as A
use Rattle.links.proofs.Answers.{delivered-with}
use Rattle.links.proofs.Bad.{bad-states, half_in, other_last}
use Rattle.links.proofs.Frames.{place-for}
use Rattle.links.proofs.Local.{Calls, refusal, written, sending, send-calls}
use Rattle.links.proofs.Promises.{refuses, steps, does, receiving-keeps-good, receiving-keeps-count}
use Rattle.links.proofs.Promises as Promise
use Rattle.links.proofs.Sockets.{socket_at, is-socket}
use Rattle.links.proofs.Tables.{receiving-leaves}

-- ---- what is delivered

-- the record that a delivery leaves is not bad, and the number is its last delivered
delivered-half : (end : End) (σ : Station) (f : List ℕ) → Octets f → (n : ℕ) (t : TransactionNumber) → (received end σ f).0 ≡ Ok (A.Delivered n t) → InHalf (peer (side_of end)) t
unfolding put_link
delivered-half end σ f o n t a = of (does end σ f)
  where
    of : Promise.Does end σ f (parsed f) (received end σ f) → InHalf (peer (side_of end)) t
    of (refuses r q) = let e : Err r ≡ Ok (A.Delivered n t) = sym (ap (λ (p : Result Answer Refusal × Station). p.0) q) ∙ a in let z : ◌≡◌ {A = ℕ} 0 1 = cc in absurd (omega arith)
    of (steps s right g below at q) =
        let side = side_of end in
        let ls = (received end σ f).1.links in
        let left : ls ≡ set σ.links s (leaves side (get_link s σ) f (Ok (A.Delivered n t))).link =
        ap (λ (τ : Station). τ.links) (receiving-leaves end σ f right g s (place-for end σ.links f s at)) ∙ ap (λ (b : Result Answer Refusal). set σ.links s (leaves side (get_link s σ) f b).link) a in
        let more : s < length ls = rw (receiving-keeps-count end σ f) below in
        let place : s + 1 - 1 ≡ s = omega arith in
        let last : (link_at ls (socket_at s)).last ≡ Some t = rw (place, left, get_or-set_same σ.links s (leaves side (get_link s σ) f (Ok (A.Delivered n t))).link no_link below) in
        (((bad-states side ls).0 (receiving-keeps-good end σ f o g)).records (socket_at s) (is-socket s (length ls) more)).last t last

-- ---- what is sent

sent-half : (side : Side) (ls : List Link) (s : Socket) (n : ℕ) (t : TransactionNumber) (k : ℕ) → told (local_send side ls s n).0 ≡ answered "sending" (t.0 ∷ k ∷ []) → InHalf side t
sent-half side ls s n t k h = of (send-calls side ls s n) h
  where
    of : {r : Result Answer Refusal × List Link} → Calls side ls s (is_open (link_at ls s).state ≡ true) (Ok (A.Sending (link_at ls s).next (seg_n n))) (sending side ls s) r
        → told r.0 ≡ answered "sending" (t.0 ∷ k ∷ []) → InHalf side t
    of (refusal q e) h = other-told _ _ refl (sym (ap (λ (r : Result Answer Refusal × List Link). told r.0) e) ∙ h)
    of (written r g c e) h =
        let w : answered "sending" ((link_at ls s).next.0 ∷ seg_n n ∷ []) ≡ answered "sending" (t.0 ∷ k ∷ []) = sym (ap (λ (r : Result Answer Refusal × List Link). told r.0) e) ∙ h in
        let q : (link_at ls s).next.0 ≡ t.0 = cc in
        subst (InHalf side) (λ i. record { 0 = q i }) (((bad-states side ls).0 g).records s r).next

pub halves : Halves
halves = record { delivered = λ end σ f o n t e. delivered-half end σ f o n t (delivered-with e); sent = sent-half }

-- ---- a link that is ready

pub ready_for : (side : Side) (l : Link) (m : Message) → ReadyFor side l m → Ready side l m
ready_for side l m a = record {
  is_open = a.is_open;
  nothing = a.nothing;
  awaited = record { not_last = other_last l.last m.number a.not_last };
  number = half_in (peer side) m.number a.half;
  some-octets = a.some-octets;
  few-octets = a.few-octets;
}
