-- Sizes that messages announce, worked out.
use Rattle.std.proofs.Common.{◌≡◌, [], ◌∷◌, None, Some, refl}
use Rattle.zvt_trace.specs.Resuming.{announced, refused_size}
use Rattle.zvt_trace.specs.declared.listener.Scope.TheVariants.{OneMessage, OneSide, WholeLine}

-- 06 0F 10 announces 16 bytes of data after its three bytes
short_announced : announced (0x06 ∷ 0x0F ∷ 0x10 ∷ 0x87 ∷ []) ≡ Some 19
short_announced = refl

-- 04 0F FF 2C 01 announces 300 bytes of data after its five bytes
long_announced : announced (0x04 ∷ 0x0F ∷ 0xFF ∷ 0x2C ∷ 0x01 ∷ []) ≡ Some 305
long_announced = refl

-- the control bytes alone announce nothing, and no more do 04 0F FF 2C
control_alone : announced (0x06 ∷ 0x0F ∷ []) ≡ None
control_alone = refl

size_cut : announced (0x04 ∷ 0x0F ∷ 0xFF ∷ 0x2C ∷ []) ≡ None
size_cut = refl

-- 06 0F 10 87 refused at 3: a side is read on after 19 bytes, and by the other scopes it is not read on
read_on : refused_size OneMessage (0x06 ∷ 0x0F ∷ 0x10 ∷ 0x87 ∷ 0x00 ∷ []) 3 ≡ Some 19
read_on = refl

side_left : refused_size OneSide (0x06 ∷ 0x0F ∷ 0x10 ∷ 0x87 ∷ 0x00 ∷ []) 3 ≡ None
side_left = refl

line_left : refused_size WholeLine (0x06 ∷ 0x0F ∷ 0x10 ∷ 0x87 ∷ 0x00 ∷ []) 3 ≡ None
line_left = refl

-- a size counts only where the bytes up to the fatal one announce it, and where that byte is one of the message
not_yet_announced : refused_size OneMessage (0x04 ∷ 0x0F ∷ 0xFF ∷ 0x2C ∷ 0x01 ∷ []) 3 ≡ None
not_yet_announced = refl

past_the_end : refused_size OneMessage (0x80 ∷ 0x00 ∷ 0x00 ∷ 0x87 ∷ []) 3 ≡ None
past_the_end = refl
