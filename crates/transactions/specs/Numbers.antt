-- Transaction numbers and sockets, which are separate counts.
use Rattle.std.specs.Prelude.{ℕ, ◌+◌, ◌*◌, ◌-◌, ◌/◌, ◌%◌, Bool, ◌&&◌, leb}
use Rattle.transactions.specs.declared.TransactionNumber.{TransactionNumber}
use Rattle.transactions.specs.declared.Socket.{Socket}

-- the number after t in its half: "We send 0x00 to 0x7F from 0x00, then 0x00 again. The device sends 0x80 to 0xFF."
abbrev pub number_after : TransactionNumber → TransactionNumber
number_after t = record { 0 = 128 * (t.0 / 128) + (t.0 + 1) % 128 }

-- whether a socket is one of so many, counted from 1
abbrev pub is_socket : Socket → ℕ → Bool
is_socket s count = leb 1 s.0 && leb s.0 count

-- the place of a socket, which counts from 1, among the records and the parts, which count from 0
abbrev pub socket_place : Socket → ℕ
socket_place s = s.0 - 1
