pub mod CompletedRows
pub mod KeptPlaces
pub mod PlacedValues
pub mod RemovedPlaces
pub mod ReturnedRows
pub mod ShownRows
pub mod StoredRows
pub mod WrittenRows
