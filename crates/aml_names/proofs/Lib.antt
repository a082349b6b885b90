mod Sets
pub mod StepLaws
mod NameLoops
pub mod NameFaults
mod SegmentOrder
pub mod NameLaws
pub mod EndLaws
mod BranchLaws
pub mod Fronts
