-- The shapes that a volume can have.
use Rattle.std.specs.Prelude.{◌≡◌, ◌*◌, ◌%◌, ◌^◌, ◌<◌}
use Rattle.ubi_volume.specs.declared.mem_volume.VolShape.{VolShape}

-- a shape that a volume can have: units, LEBs of whole units, and fewer than 2 ^ 63 bytes
pub record IsShape (shape : VolShape) : Type 0 where
  pub unit : 0 < shape.min_io
  pub some : 0 < shape.leb_size
  pub whole : shape.leb_size % shape.min_io ≡ 0
  pub fits : shape.leb_size * shape.leb_cnt < 2 ^ 63
