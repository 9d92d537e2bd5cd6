-- The whole table is computed at once.
use mathlib.Core.Path.{refl}
use Rattle.fcs.specs.Fcs.{check_octet, octet_step, bit_step}
use Rattle.beacon.specs.Rules.{out_of_window, iv_rule}
use Rattle.beacon.specs.Beacons.{moved, secure, heard}
use Rattle.octets.specs.Cut.{piece, up_to}
use Rattle.proxy.specs.Pieces.{last_piece, top_bits, piece_octets}
use Rattle.filter_messages.specs.Messages.{change_of, request_of}
use Rattle.filter_entries.specs.Entries.{find_from}
use Rattle.filter_entries.specs.Changes.{changed}
use Rattle.proxy_filter.specs.Filters.{holding, is_good}
use Rattle.proxy_filter.specs.Calls.{controlled}
use Rattle.figures.specs.Figures.{FiguresHold}

pub figures-hold : FiguresHold
unfolding check_octet octet_step bit_step out_of_window iv_rule moved secure heard piece up_to last_piece top_bits piece_octets find_from holding is_good changed change_of request_of controlled
figures-hold = refl
