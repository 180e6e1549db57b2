-- That the exports are the calls of the outer face.
pub mod Same
