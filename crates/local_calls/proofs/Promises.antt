-- The promise of `specs/Promises.antt`.
use mathlib.Core.Path.{refl}
use Rattle.local_calls.specs.Promises.{HandsBack}

pub hands-back : HandsBack
hands-back r = refl
