-- The demands of the station (`specs/Demands.antt`), from those over any number of links.
use mathlib.Core.Path.{◌≡◌, refl}
use mathlib.Core.Bool.{true}
use Rattle.links.specs.Links.{provisioner}
use Rattle.links.specs.Station.{Station, get_link, is_right}
use Rattle.links.specs.declared.Side.TheVariants.{Provisioner}
use Rattle.links.proofs.Halves.{ready_for}
use Rattle.links.proofs.Tables.{receiving-table}
use Rattle.links.proofs.Back.{back}
use Rattle.links.proofs.Only.{only}
use Rattle.links.proofs.Demand3.{demand3}
use Rattle.station.specs.Calls.{station_of}
use Rattle.station.proofs.Laws.{area-right}
use Rattle.station.specs.Demands.{Eight, Demands}

right : (σ : Station) → Eight σ → is_right provisioner σ ≡ true
right σ e = area-right σ.links σ.area e.links e.area

pub demands : Demands
unfolding get_link
demands = record {
  handed = λ links area f. refl;
  table = λ links area f o. receiving-table provisioner (station_of links area) f o;
  back = λ σ e s b m a. back provisioner σ s m (record { right = right σ e; not_bad = e.not_bad; socket = rw e.links b; ready = ready_for Provisioner _ m a });
  only = λ σ e operations. only provisioner σ operations;
  mixture = λ σ e message a. demand3 provisioner σ message (record { right = right σ e; not_bad = e.not_bad; ready = λ s b. ready_for Provisioner _ (message s) (a s (rw e.links at b)) });
}
