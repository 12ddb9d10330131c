-- A journal that has not failed.
use Rattle.std.proofs.Common.{◌≡◌, false, Option, Some, None, is_some, refl}
use Rattle.zvt_journal.specs.declared.device.DeviceError.{DeviceError}

pub unfailed : (failure : Option DeviceError) → is_some failure ≡ false → failure ≡ None
unfailed None is = refl
unfailed (Some why) is = absurd (cc)
