-- A message that a line delivers came by its cut, in lines since the latest opening of its socket, and the line itself has a frame of it.
use Prim.Native.Nat.{ℕ, ◌*◌, ◌≤◌}
use Rattle.std.specs.Prelude.{Some, Ok}
use native.Mathlib.Omega.{arith}
use mathlib.Core.Bool.{true}
use mathlib.Core.List.Memᴰ
use mathlib.Core.List.{List, [], ◌∷◌, ◌++◌, append_assoc, Memᴰ}
use mathlib.Core.Logic.{◌⊎◌, inl, inr}
use mathlib.Core.Path.{◌≡◌, refl, sym, ap, ◌∙◌, subst}
use lib.ListN.{length, take, drop, length-take}
use lib.Seq.{append_snoc, take-take}
use Rattle.octets.specs.Parts.{part}
use Rattle.hexadecimal.specs.Hex.{octets_of}
use Rattle.transactions.specs.Numbers.{is_socket, socket_place}
use Rattle.transactions.specs.Segments.{seg_n}
use Rattle.transactions.specs.declared.Socket.{Socket}
use Rattle.transactions.specs.declared.TransactionNumber.{TransactionNumber}
use Rattle.pb_adv.specs.Frame.{parsed}
use Rattle.pb_adv_writing.specs.Writing.{segment_frame, message_frames}
use Rattle.links.specs.Links.{provisioner, told}
use Rattle.links.specs.Station.{Station, get_link, of_socket, received}
use Rattle.links.specs.Interleaving.{All, state_after, BeforeEach}
use Rattle.links.specs.Operations.{Operation, receiving, opening, operate, after_all as operated, Offered}
use Rattle.links.specs.Promises.{addressed}
use Rattle.links.specs.Demand3.{Message}
use Rattle.links.specs.Demand2.{Receiving, CameByCut, FromCut, Delivery, UsedUnder, OpenedBy, Opened}
use Rattle.links.specs.declared.Answer.TheVariants as A
use Rattle.links.proofs.Interleaving.{after-append}
use Rattle.links.proofs.Only.{only}
use Rattle.links.proofs.Opened.{opened-since}
use Rattle.links.proofs.Sockets.{socket-at}
use Rattle.line_fields.specs.declared.Field.TheVariants as F
use Rattle.import_frames.specs.Origins.{frame_origin}
use Rattle.log_lines.specs.Lines.{is_frame}
use Rattle.import_log.specs.Logs.{Import, after, after_all, at_first}
use Rattle.import_log.specs.Records.{LatestOpening, message_origin, HeardIn}
use Rattle.import_log.proofs.Operations.{operations_in, operations_from, Does, hears, opens, sends, closes, nothing, does, station_in, stations-after, frame-octets, all_append, lines-octets, at-start}
use Rattle.import_log.proofs.Deliveries.{Delivers, delivers}
use Rattle.import_log.proofs.Openings.{none_left, OpeningOf, opening_of}

-- ---- lists of operations

-- a list that ends in c, split elsewhere
record EndsIn (a : List Operation) (c : Operation) (x y : List Operation) : Type 0 where
  mid : List Operation
  front : a ≡ x ++ mid
  back : y ≡ mid ++ (c ∷ [])

ends-in : (a : List Operation) (c : Operation) (x : List Operation) (d : Operation) (z : List Operation) → a ++ (c ∷ []) ≡ x ++ (d ∷ z) → EndsIn a c x (d ∷ z)
ends-in a c [] d z e = record { mid = a; front = refl; back = sym e }
ends-in [] c (w ∷ x) d z e = let q : [] ≡ x ++ (d ∷ z) = cc in absurd (none_left x d z q)
ends-in (b ∷ a) c (w ∷ x) d z e =
    let head : b ≡ w = cc in
    let tail : a ++ (c ∷ []) ≡ x ++ (d ∷ z) = cc in
    let r = ends-in a c x d z tail in
    record { mid = r.mid; front = (λ i. head i ∷ r.front i); back = r.back }

all-front : (a b : List Operation) → All (Offered provisioner) (a ++ b) → All (Offered provisioner) a
all-front [] b h = tt
all-front (c ∷ a) b h = (h.0, all-front a b h.1)

module _ {S K A : Type 0} (step : S → K → A × S) (P : S → Type 0) where
  before-front : (σ : S) (a b : List K) → BeforeEach step P σ (a ++ b) → BeforeEach step P σ a
  before-front σ [] b h = tt
  before-front σ (k ∷ a) b h = (h.0, before-front (step σ k).1 a b h.1)

  before-append : (σ : S) (a b : List K) → BeforeEach step P σ a → BeforeEach step P (state_after step σ a) b → BeforeEach step P σ (a ++ b)
  before-append σ [] b h k = k
  before-append σ (j ∷ a) b h k = (h.0, before-append (step σ j).1 a b h.1 k)

  before-map : (Q : S → Type 0) → ((σ : S) → Q σ → P σ) → (σ : S) (a : List K) → BeforeEach step Q σ a → BeforeEach step P σ a
  before-map Q f σ [] h = tt
  before-map Q f σ (k ∷ a) h = (f σ h.0, before-map Q f (step σ k).1 a h.1)

-- ---- a frame that was received was heard

later : (line : List ℕ) {lines : List (List ℕ)} {f : List ℕ} → HeardIn lines f → HeardIn (line ∷ lines) f
later line h = record { line = h.line; among = Memᴰ.tail h.among; is_hexadecimal = h.is_hexadecimal; octets = h.octets }

heard : (m : Import) (lines : List (List ℕ)) (f : List ℕ) → Memᴰ (receiving f) (operations_from m lines) → HeardIn lines f
unfolding operations_from
heard m [] f h = absurd (Memᴰ.not-nil h)
heard m (line ∷ lines) f h = of (does m.log.tray line) (Memᴰ.append_cases (operations_in m.log.tray line) h) (heard (after m line) lines f)
  where
    of : Does m.log.tray line → Memᴰ (receiving f) (operations_in m.log.tray line) ⊎ Memᴰ (receiving f) (operations_from (after m line) lines)
        → (Memᴰ (receiving f) (operations_from (after m line) lines) → HeardIn lines f) → HeardIn (line ∷ lines) f
    of d (inr k) r = later line (r k)
    of (hears e q) (inl k) r =
        let s = Memᴰ.eq_of_singleton (rw q at k) in
        record { line = line; among = Memᴰ.head refl; is_hexadecimal = e; octets = cc }
    of (opens e q) (inl k) r = let s = Memᴰ.eq_of_singleton (rw q at k) in let z : ◌≡◌ {A = ℕ} 0 1 = cc in absurd (omega arith)
    of (sends s n q) (inl k) r = let s = Memᴰ.eq_of_singleton (rw q at k) in let z : ◌≡◌ {A = ℕ} 0 1 = cc in absurd (omega arith)
    of (closes s a b q) (inl k) r = let s = Memᴰ.eq_of_singleton (rw q at k) in let z : ◌≡◌ {A = ℕ} 0 1 = cc in absurd (omega arith)
    of (nothing q) (inl k) r = absurd (Memᴰ.not-nil (rw q at k))

-- ---- a delivery in a log

abbrev σ : Station
σ = station_in at_first

module _ (before : List (List ℕ)) (line : List ℕ) (is_one : is_frame line ≡ true) where
  abbrev f : List ℕ
  f = octets_of line

  abbrev past : List Operation
  past = operations_from at_first before

  -- every operation since the opening was with the socket in use
  module _ (s : Socket) (id : ℕ) (m : Message) (b : CameByCut provisioner σ s id m (past ++ (receiving f ∷ []))) (w : OpenedBy provisioner σ s id (opening s id) b.before) where
    abbrev Used : Station → Type 0
    Used τ = UsedUnder id (of_socket s τ)

    ends : EndsIn past (receiving f) b.before (b.start ∷ b.since)
    ends = ends-in past (receiving f) b.before b.start b.since b.split

    split : past ≡ w.before ++ (opening s id ∷ (w.since ++ ends.mid))
    split = ends.front ∙ ap (λ (l : List Operation). l ++ ends.mid) w.split ∙ append_assoc w.before (opening s id ∷ w.since) ends.mid

    receiving-used : (τ : Station) → Receiving id m.number (length m.octets) (of_socket s τ) → Used τ
    receiving-used τ r = record { is_used = rw r.under.is_open; has_id = r.under.has_id }

    from_start : BeforeEach (operate provisioner) Used (operated provisioner σ b.before) (b.start ∷ b.since)
    from_start = (
      record { is_used = rw b.opened.is_open; has_id = b.opened.has_id },
      before-map (operate provisioner) Used _ receiving-used _ b.since (rw (after-append (operate provisioner) σ b.before (b.start ∷ [])) at b.held),
    )

    since-opening : BeforeEach (operate provisioner) Used (operated provisioner σ (w.before ++ (opening s id ∷ []))) (w.since ++ ends.mid)
    since-opening =
        let joined = after-append (operate provisioner) σ (w.before ++ (opening s id ∷ [])) w.since in
        before-append (operate provisioner) Used _ w.since ends.mid w.held
        (before-front (operate provisioner) Used _ ends.mid (receiving f ∷ [])
        (rw (← joined, append_snoc w.before (opening s id) w.since, ← w.split, ← ends.back) from_start))

    came-since : OpeningOf before s id (w.since ++ ends.mid)
    came-since = opening_of before s id w.before (w.since ++ ends.mid) split w.done since-opening

    cut-since : (g : List ℕ) → Memᴰ g (message_frames id m.number m.octets) → HeardIn (came-since.opened.since ++ (line ∷ [])) g
    cut-since g h = of (Memᴰ.append_cases ends.mid (rw ends.back at (b.cut g h)))
      where
        of : Memᴰ (receiving g) ends.mid ⊎ Memᴰ (receiving g) (receiving f ∷ []) → HeardIn (came-since.opened.since ++ (line ∷ [])) g
        of (inl k) =
            let o = came-since.opened in
            let r = heard (after (after_all at_first o.before) o.opening) o.since g (rw came-since.others (Memᴰ.append_right w.since k)) in
            record { line = r.line; among = Memᴰ.append_left (line ∷ []) r.among; is_hexadecimal = r.is_hexadecimal; octets = r.octets }
        of (inr k) =
            let q = Memᴰ.eq_of_singleton k in
            record { line = line; among = Memᴰ.append_right came-since.opened.since (Memᴰ.head refl); is_hexadecimal = is_one; octets = cc }

  abbrev τ : Station
  τ = operated provisioner σ past

  -- the message that the line delivers, at a station
  pub record Came (ρ : Station) (n : ℕ) (t : TransactionNumber) : Type 0 where
    pub socket : Socket
    pub id : ℕ
    pub octets : List ℕ
    pub opened : LatestOpening before socket id
    pub cut : (g : List ℕ) → Memᴰ g (message_frames id t octets) → HeardIn (opened.since ++ (line ∷ [])) g
    pub is_for : addressed provisioner ρ.links (parsed f) ≡ Some (socket_place socket)
    pub stands : part (received provisioner ρ f).1.area (1469 * socket_place socket) n ≡ octets
    pub origin : frame_origin (Some (socket_place socket)) (parsed f) ≡ message_origin socket id t
    pub index : ℕ
    pub inside : index ≤ seg_n (length octets)
    pub frame : f ≡ segment_frame id t octets index

  module _ (n : ℕ) (t : TransactionNumber) (s : Socket) (numbered : is_socket s 8 ≡ true) (at : addressed provisioner τ.links (parsed f) ≡ Some (socket_place s))
      (u : Delivers τ f (frame-octets line is_one) (socket_place s) n t) (m : Message) (same_number : m.number ≡ t)
      (same : part (received provisioner τ f).1.area (1469 * socket_place s) n ≡ m.octets)
      (b : CameByCut provisioner σ s (of_socket s τ).link.id m (past ++ (receiving f ∷ [])))
      (w : OpenedBy provisioner σ s (of_socket s τ).link.id (opening s (of_socket s τ).link.id) b.before) where
    abbrev its : ℕ
    its = (of_socket s τ).link.id

    origin-is : frame_origin (Some (socket_place s)) (parsed f) ≡ message_origin s its t
    origin-is =
        let p = ap (λ (x : Socket). x.0) (socket-at s 8 numbered) in
        rw u.is_segment (λ i. record { socket = F.Decimal (p i); id = F.Number (u.has_id i); number = F.Octet (u.number i).0 })

    came-in : Came τ n t
    came-in = record {
      socket = s;
      id = its;
      octets = m.octets;
      opened = (came-since s its m b w).opened;
      cut = λ g h. cut-since s its m b w g (rw same_number h);
      is_for = at;
      stands = same;
      origin = origin-is;
      index = u.index;
      inside = rw (← same, u.long) u.inside;
      frame = rw (← same, ← u.has_id) u.frame;
    }

  module _ (n : ℕ) (t : TransactionNumber) (delivered : (received provisioner τ f).0 ≡ Ok (A.Delivered n t)) where
    delivery : Delivery provisioner σ past f (n ∷ t.0 ∷ [])
    delivery = only provisioner σ past (lines-octets at_first before) f (frame-octets line is_one) (n ∷ t.0 ∷ []) (ap told delivered)

    from_cut : FromCut provisioner σ delivery.socket past f (n ∷ t.0 ∷ [])
    from_cut = delivery.only (rw (at-start (socket_place delivery.socket)))

    abbrev m : Message
    m = from_cut.message

    long : n ≡ length m.octets
    long = let v = from_cut.valued in cc

    same_number : m.number ≡ t
    same_number = let v = from_cut.valued in let q : m.number.0 ≡ t.0 = cc in λ i. record { 0 = q i }

    -- its octets are those that stand in the part
    same-octets : part (received provisioner τ f).1.area (1469 * socket_place delivery.socket) n ≡ m.octets
    unfolding get_link
    same-octets =
        let area = (received provisioner τ f).1.area in
        let s = socket_place delivery.socket in
        let w : take (length m.octets) (part area (1469 * s) 1469) ≡ m.octets =
        rw (after-append (operate provisioner) σ past (receiving f ∷ [])) at from_cut.stands in
        let few : length m.octets ≤ 1469 = omega (arith, simp length-take at (ap length w)) in
        ap (λ (i : ℕ). part area (1469 * s) i) long ∙ (sym (take-take (length m.octets) 1469 (drop (1469 * s) area) few) ∙ w)

    opened : Opened provisioner σ delivery.socket (of_socket delivery.socket τ).link.id from_cut.came.before
    opened =
        let b = from_cut.came in
        let octets : All (Offered provisioner) (past ++ (receiving f ∷ [])) = all_append past (receiving f ∷ []) (lines-octets at_first before) (frame-octets line is_one, tt) in
        subst (λ (i : ℕ). Opened provisioner σ delivery.socket i b.before) b.opened.has_id
        (opened-since provisioner σ delivery.socket delivery.numbered (rw (at-start (socket_place delivery.socket))) b.before
        (all-front b.before (b.start ∷ b.since) (rw b.split at octets)) (rw b.opened.is_open))

    came-now : Came τ n t
    came-now =
        came-in n t delivery.socket delivery.numbered delivery.is_for
        (delivers τ f (frame-octets line is_one) (socket_place delivery.socket) n t delivery.is_for delivered) m same_number same-octets from_cut.came opened

  pub came : (n : ℕ) (t : TransactionNumber) → (received provisioner (station_in (after_all at_first before)) f).0 ≡ Ok (A.Delivered n t)
      → Came (station_in (after_all at_first before)) n t
  came n t = subst (λ (ρ : Station). (received provisioner ρ f).0 ≡ Ok (A.Delivered n t) → Came ρ n t) (sym (stations-after at_first before)) (came-now n t)
